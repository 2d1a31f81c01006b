-- In a state that is read nothing waits before its time.
use Rattle.std.proofs.Common.{◌≡◌, ℕ, suc, ◌+◌, ◌≤◌, Bool, true, false, cond, Option, Some, None, List, [], ◌∷◌, refl, sym, ap, ◌∙◌, subst, arith, length, drop, codes}
use Rattle.std.specs.Prelude.{◌&&◌, ◌==◌, ◌^◌, nat_lt, nat_le, ℤ, Result, Ok, Err, if◌then◌else◌}
use Rattle.std.specs.List.{All, list_all, slice_split}
use Rattle.std.specs.Str.{bytes_eq}
use Rattle.std.proofs.lemmas.List.Elements.{All-nil, All-cons}
use Rattle.std.proofs.lemmas.Bool.Decides.{nat_tests}
use Rattle.quantity.specs.declared.value.Value.{Value}
use Rattle.quantity.specs.Bytes.{Bytes}
use Rattle.quantity.specs.ValueTexts.{signed_in}
use Rattle.quantity.specs.Written.{if_written, for_some}
use Rattle.quantity.proofs.DigitLemmas.{both}
use Rattle.atomic_face.specs.declared.class.Class.{Class}
use Rattle.atomic_face.specs.Classes.{next_of}
use Rattle.atomic_face.specs.BoxStates.{is_box_state}
use Rattle.model_tree.specs.Tree.{Tree, Leaf, atomic_leaf, cell_leaf, leaves}
use Rattle.run_model.specs.CellStep.{PortState}
use Rattle.run_model.specs.Cycle.{LeafState, box_state, cell_state}
use Rattle.run_model.specs.Waiting.{RisesFrom, IsNotBefore, BoxWaitsFrom, LeafWaitsFrom}
use Rattle.text_forms.specs.declared.refusal.StateRefusal.{StateRefusal}
use Rattle.text_forms.specs.declared.refusal.StateRefusal.TheVariants.{BadStateLine, EndBefore, TooLarge}
use Rattle.text_forms.specs.LeafStates.{rises, is_port_state, is_later, is_leaf_state}
use Rattle.text_forms.specs.StateText.{leaf_line}
use Rattle.text_forms.specs.StateOf.{Saved, next_line, just, nothing_more, leaves_in, read_at, state_at, read_leaf, leaf_state_in, if_leaf_state, all_in, line_words}
use Rattle.answer_model.specs.Resume.{MayBegin, StatesMayBegin, ResumedRunsEnd}
use Rattle.run_model.proofs.BoxLaws.{state-waits, box-later}
use Rattle.run_model.proofs.Basics.{none_some, some_same}
use Rattle.answer_model.proofs.Resumes.{is_run}

-- ---- what was found

if_there : {A : Type 0} (b : Bool) (y x : A) → cond b (Some y) None ≡ Some x → (b ≡ true) × (y ≡ x)
if_there true y x e = (refl, some_same y x e)
if_there false y x e = absurd (none_some e)

written_there : {A : Type 0} (write : A → Bytes) (text : Bytes) (o : Option A) (x : A) → if_written write text o ≡ Some x → o ≡ Some x
written_there write text None x e = absurd (none_some e)
written_there write text (Some y) x e = ap Some (if_there (bytes_eq (write y) text) y x e).1

some_there : {A B : Type 0} (o : Option A) (go : A → Option B) (y : B) → for_some o go ≡ Some y → (x : A) × (o ≡ Some x) × (go x ≡ Some y)
some_there None go y e = absurd (none_some e)
some_there (Some x) go y e = (x, refl, e)

leaf_there : (t : ℕ) (l : Leaf) (o : Option LeafState) (s : LeafState) → if_leaf_state t l o ≡ Some s → (o ≡ Some s) × (is_leaf_state t l s ≡ true)
leaf_there t l o s e =
    let k = some_there o (λ s. if is_leaf_state t l s then Some s else None) s e in
    let m = if_there (is_leaf_state t l k.0) k.0 s k.2 in
    (k.1 ∙ ap Some m.1, subst (λ x. is_leaf_state t l x ≡ true) m.1 m.0)

-- ---- cells

after : (t n : ℕ) → nat_lt t n ≡ true → t + 1 ≤ n
after t n h = grind (arith, nat_tests)

rises_from : (t : ℕ) (ps : List (ℕ × Value)) → rises t ps ≡ true → RisesFrom (t + 1) ps
rises_from t [] h = tt
rises_from t (p ∷ ps) h =
    let b = both (nat_lt t p.0 && nat_le p.0 719999998) (rises p.0 ps) h in
    let a = both (nat_lt t p.0) (nat_le p.0 719999998) b.0 in
    (after t p.0 a.0, rises_from p.0 ps b.1)

ports_wait : (t : ℕ) (ps : List PortState) → list_all (is_port_state t) ps ≡ true → All (λ (p : PortState). RisesFrom (t + 1) p.pairs) ps
ports_wait t [] h = All-nil (λ (p : PortState). RisesFrom (t + 1) p.pairs)
ports_wait t (p ∷ ps) h =
    let b = both (is_port_state t p) (list_all (is_port_state t) ps) h in
    All-cons (λ (p : PortState). RisesFrom (t + 1) p.pairs) p ps (rises_from t p.pairs b.0) (ports_wait t ps b.1)

-- ---- boxes

is_not_before : (t : ℕ) (o : Option ℕ) → is_later t o ≡ true → IsNotBefore (t + 1) o
is_not_before t None h = tt
is_not_before t (Some n) h = after t n h

box_waits : (t : ℕ) (class : Class) (settings state : List ℤ) → (is_box_state class settings state && is_later t (next_of class state)) ≡ true → BoxWaitsFrom (t + 1) class state
box_waits t class settings state h =
    let k = both (is_box_state class settings state) (is_later t (next_of class state)) h in
    box-later class state 0 (t + 1) (is_not_before t (next_of class state) k.1) (state-waits class settings state k.0)

-- ---- a leaf

-- a box that is read is of its leaf's class
box_there : (name : Bytes) (class : Class) (settings : List ℤ) (ws : List Bytes) (s : LeafState) → leaf_state_in (atomic_leaf name class settings) ws ≡ Some s
    → (state : List ℤ) × (s ≡ box_state (record { kind = class; settings = settings; state = state }))
box_there name class settings ws s e =
    let k = some_there (all_in (signed_in (10 ^ 17)) ws) (λ words. Some (box_state (record { kind = class; settings = settings; state = words }))) s e in
    (k.0, sym (some_same _ s k.2))

leaf_waits : (t : ℕ) (l : Leaf) (line : Bytes) (s : LeafState) → read_leaf t l line ≡ Some s → LeafWaitsFrom (t + 1) s
leaf_waits t (atomic_leaf name class settings) line s e =
    let k = leaf_there t (atomic_leaf name class settings) (leaf_state_in (atomic_leaf name class settings) (drop 2 (line_words line))) s
    (written_there (leaf_line (atomic_leaf name class settings)) line _ s e) in
    let b = box_there name class settings (drop 2 (line_words line)) s k.0 in
    let good = subst (λ x. is_leaf_state t (atomic_leaf name class settings) x ≡ true) b.1 k.1 in
    subst (LeafWaitsFrom (t + 1)) (sym b.1) (box_waits t class settings b.0 good)
leaf_waits t (cell_leaf g first cell) line s e =
    let k = leaf_there t (cell_leaf g first cell) (leaf_state_in (cell_leaf g first cell) (drop 2 (line_words line))) s
    (written_there (leaf_line (cell_leaf g first cell)) line _ s e) in
    by s k.1
  where
    by : (s : LeafState) → is_leaf_state t (cell_leaf g first cell) s ≡ true → LeafWaitsFrom (t + 1) s
    by (box_state b) h = absurd cc
    by (cell_state c) h =
        let b = both (list_all (is_port_state t) c.ports && (length c.ports == suc (length g.ports))) (length c.variables == length g.variables) h in
        ports_wait t c.ports (both (list_all (is_port_state t) c.ports) (length c.ports == suc (length g.ports)) b.0).0

-- ---- line after line

ok_same : {A B : Type 0} (x y : A) → ◌≡◌ {A = Result A B} (Ok x) (Ok y) → x ≡ y
ok_same x y e = cc

-- a line that is taken is read
taken : {A B : Type 0} (n : ℕ) (read : Bytes → Option A) (go : A → List Bytes → Result B StateRefusal) (b : B) (parts : List Bytes) → next_line n read parts go ≡ Ok b
    → (line : Bytes) × (rest : List Bytes) × (x : A) × (read line ≡ Some x) × (go x rest ≡ Ok b)
taken n read go b [] e = absurd cc
taken n read go b (line ∷ []) e = absurd cc
taken {A} {B} n read go b (line ∷ next ∷ more) e = by (read line) refl e
  where
    by : (o : Option A) → read line ≡ o → (elim o as (λ x. Result B StateRefusal) [ None ↦ Err (BadStateLine n) | Some x ↦ go x (next ∷ more) ]) ≡ Ok b
        → (line : Bytes) × (rest : List Bytes) × (x : A) × (read line ≡ Some x) × (go x rest ≡ Ok b)
    by None f h = absurd cc
    by (Some x) f h = (line, next ∷ more, x, f, h)

no_leaves : (n : ℕ) (ss : List LeafState) (rest : List Bytes) → nothing_more n [] rest ≡ Ok ss → ss ≡ []
no_leaves n ss ([] ∷ []) e = sym (ok_same [] ss e)
no_leaves n ss [] e = absurd cc
no_leaves n ss ([] ∷ next ∷ more) e = absurd cc
no_leaves n ss ((c ∷ cs) ∷ more) e = absurd cc

leaves_wait : (n t : ℕ) (ls : List Leaf) (parts : List Bytes) (ss : List LeafState) → leaves_in n t ls parts ≡ Ok ss → All (LeafWaitsFrom (t + 1)) ss
leaves_wait n t [] parts ss e =
    let k = taken n (just (codes "end")) (λ e rest. nothing_more (n + 1) [] rest) ss parts e in
    subst (All (LeafWaitsFrom (t + 1))) (sym (no_leaves (n + 1) ss k.1 k.4)) (All-nil (LeafWaitsFrom (t + 1)))
leaves_wait n t (l ∷ ls) parts ss e =
    let k = taken n (read_leaf t l) (λ s rest. elim (leaves_in (n + 1) t ls rest) [ Err e ↦ Err e | Ok ss ↦ Ok (s ∷ ss) ]) ss parts e in
    by k.2 (leaf_waits t l k.0 k.2 k.3) (leaves_in (n + 1) t ls k.1) (leaves_wait (n + 1) t ls k.1) k.4
  where
    by : (s : LeafState) → LeafWaitsFrom (t + 1) s → (r : Result (List LeafState) StateRefusal) → ((xs : List LeafState) → r ≡ Ok xs → All (LeafWaitsFrom (t + 1)) xs)
        → (elim r as (λ x. Result (List LeafState) StateRefusal) [ Err e ↦ Err e | Ok xs ↦ Ok (s ∷ xs) ]) ≡ Ok ss → All (LeafWaitsFrom (t + 1)) ss
    by s here (Err e) later h = absurd cc
    by s here (Ok xs) later h =
        subst (All (LeafWaitsFrom (t + 1))) (ok_same (s ∷ xs) ss h) (All-cons (LeafWaitsFrom (t + 1)) s xs here (later xs refl))

-- ---- the whole text

not_past : (end t : ℕ) → nat_lt end t ≡ false → t ≤ end
not_past end t h = grind (arith, nat_tests)

at_begins : (end t : ℕ) (ls : List Leaf) (parts : List Bytes) (s : Saved) → state_at end t ls parts ≡ Ok s → MayBegin (Some s) end
at_begins end t ls parts s e = by (nat_lt end t) refl e
  where
    found : t ≤ end → (r : Result (List LeafState) StateRefusal) → leaves_in 3 t ls parts ≡ r
        → (elim r as (λ x. Result Saved StateRefusal) [ Err e ↦ Err e | Ok ss ↦ Ok (record { time = t; states = ss }) ]) ≡ Ok s → MayBegin (Some s) end
    found le (Err e) f h = absurd cc
    found le (Ok ss) f h =
        subst (λ (x : Saved). MayBegin (Some x) end) (ok_same (record { time = t; states = ss }) s h) (le, leaves_wait 3 t ls parts ss f)

    by : (b : Bool) → nat_lt end t ≡ b → cond b (Err (EndBefore 2)) (elim (leaves_in 3 t ls parts) as (λ x. Result Saved StateRefusal) [ Err e ↦ Err e | Ok ss ↦ Ok (record { time = t; states = ss }) ]) ≡ Ok s
        → MayBegin (Some s) end
    by true f h = absurd cc
    by false f h = found (not_past end t f) (leaves_in 3 t ls parts) refl h

in_size : (tree : Tree) (end : ℕ) (bytes : Bytes) (s : Saved) (b : Bool)
    → cond b (Err (TooLarge 0)) (next_line 1 (just (codes "state 1")) (slice_split (λ c. c == 10) bytes) (λ first rest. next_line 2 read_at rest (λ t rest. state_at end t (leaves tree) rest))) ≡ Ok s
    → MayBegin (Some s) end
in_size tree end bytes s true e = absurd cc
in_size tree end bytes s false e =
    let k = taken 1 (just (codes "state 1")) (λ first rest. next_line 2 read_at rest (λ t rest. state_at end t (leaves tree) rest)) s (slice_split (λ c. c == 10) bytes) e in
    let m = taken 2 read_at (λ t rest. state_at end t (leaves tree) rest) s k.1 k.4 in
    at_begins end m.2 (leaves tree) m.1 s m.4

pub states_may_begin : StatesMayBegin
states_may_begin bytes tree end s e = in_size tree end bytes s (nat_lt 268435456 (length bytes)) e

pub resumed_runs_end : ResumedRunsEnd
resumed_runs_end bytes tree events end limit s e = is_run tree events limit end (Some s) (states_may_begin bytes tree end s e)
