-- A state that is read is one after its time.
use Rattle.std.proofs.Common.{◌≡◌, ℕ, zero, suc, ◌+◌, ◌^◌, ◌≤◌, Bool, true, false, cond, Option}
use Rattle.std.proofs.Common.{Some, None, List, [], ◌∷◌, refl, sym, ap, ◌∙◌, subst, arith, length}
use Rattle.std.proofs.Common.{drop, codes}
use Rattle.std.specs.Prelude.{◌&&◌, ◌==◌, nat_lt, nat_le, ℤ, unsigned_abs, Result, Ok, Err}
use Rattle.std.specs.Prelude.{if◌then◌else◌}
use Rattle.std.specs.List.{AllZip, list_all, slice_split}
use Rattle.std.specs.Str.{bytes_eq}
use Rattle.std.proofs.lemmas.Bool.Decides.{nat_tests}
use Rattle.quantity.specs.declared.value.Value.{Value}
use Rattle.quantity.specs.declared.value.Value.TheVariants.{Undefined, Num}
use Rattle.quantity.specs.Arithmetic.{value_in_bounds}
use Rattle.quantity.specs.Bytes.{Bytes}
use Rattle.std.specs.Option.{option_and_then}
use Rattle.quantity.specs.Literals.{signed_raw}
use Rattle.quantity.specs.ValueTexts.{guessed_value, signed_in}
use Rattle.quantity.specs.Written.{if_written, for_some, number_up_to}
use Rattle.atomic_face.specs.declared.class.Class.{Class}
use Rattle.model_tree.specs.Tree.{Tree, Group, Leaf, atomic_leaf, cell_leaf, leaves}
use Rattle.run_model.specs.CellStep.{PortState}
use Rattle.run_model.specs.Cycle.{LeafState, box_state, cell_state}
use Rattle.run_model.proofs.Basics.{none_some, some_same, on_there, both_are}
use Rattle.text_forms.specs.declared.refusal.StateRefusal.{StateRefusal}
use Rattle.text_forms.specs.declared.refusal.StateRefusal.TheVariants.{BadStateLine, EndBefore}
use Rattle.text_forms.specs.declared.refusal.StateRefusal.TheVariants.{TooLarge}
use Rattle.text_forms.specs.LogLine.{is_value}
use Rattle.text_forms.specs.LeafStates.{is_leaf_state}
use Rattle.text_forms.specs.StateOfLeaf.{has_values_in_range}
use Rattle.text_forms.specs.StateText.{leaf_line}
use Rattle.text_forms.specs.StateOf.{Saved, next_line, just, nothing_more, leaves_in, read_at}
use Rattle.text_forms.specs.StateOf.{state_at, state_of, read_leaf, leaf_state_in, if_leaf_state}
use Rattle.text_forms.specs.StateOf.{all_in, pairs_in, port_state_in, ports_in, line_words}
use Rattle.saved_runs.specs.TextOnce.{IsStateAfter, AreStatesAfter}

-- ---- what was found

if_there : {A : Type 0} (b : Bool) (y x : A) → cond b (Some y) None ≡ Some x → (b ≡ true) × (y ≡ x)
if_there true y x e = (refl, some_same y x e)
if_there false y x e = absurd (none_some e)

written_there : {A : Type 0} (write : A → Bytes) (text : Bytes) (o : Option A) (x : A)
    → if_written write text o ≡ Some x → o ≡ Some x
written_there write text None x e = absurd (none_some e)
written_there write text (Some y) x e = ap Some (if_there (bytes_eq (write y) text) y x e).1

some_there : {A B : Type 0} (o : Option A) (go : A → Option B) (y : B) → for_some o go ≡ Some y
    → (x : A) × (o ≡ Some x) × (go x ≡ Some y)
some_there None go y e = absurd (none_some e)
some_there (Some x) go y e = (x, refl, e)

leaf_there : (t : ℕ) (l : Leaf) (o : Option LeafState) (s : LeafState)
    → if_leaf_state t l o ≡ Some s → (o ≡ Some s) × (is_leaf_state t l s ≡ true)
leaf_there t l o s e =
    let k = some_there o (λ s. if is_leaf_state t l s then Some s else None) s e in
    let m = if_there (is_leaf_state t l k.0) k.0 s k.2 in
    (k.1 ∙ ap Some m.1, subst (λ x. is_leaf_state t l x ≡ true) m.1 m.0)

-- ---- values

value_read : (text : Bytes) (v : Value) → guessed_value text ≡ Some v → is_value v ≡ true
value_read text v e = go (bytes_eq text (codes "?")) e
  where
    sized : (z : ℤ) (b : Bool) → nat_le (unsigned_abs z) (10 ^ 15) ≡ b
        → cond b (Some (Num z)) None ≡ Some v → is_value v ≡ true
    sized z true is f = subst (λ v. is_value v ≡ true) (some_same (Num z) v f) is
    sized z false is f = absurd (none_some f)

    go : (b : Bool) → cond b (Some Undefined) (option_and_then value_in_bounds (signed_raw 11 text))
        ≡ Some v → is_value v ≡ true
    go true f = subst (λ v. is_value v ≡ true) (some_same Undefined v f) refl
    go false f = let p = on_there value_in_bounds (signed_raw 11 text) v f in
        sized p.0 (nat_le (unsigned_abs p.0) (10 ^ 15)) refl p.2

abbrev Reads : Option Value → Type 0
Reads o = (v : Value) → o ≡ Some v → is_value v ≡ true

values_read : (ws : List Bytes) (xs : List Value) → all_in guessed_value ws ≡ Some xs
    → list_all is_value xs ≡ true
values_read [] xs e = subst (λ xs. list_all is_value xs ≡ true) (some_same [] xs e) refl
values_read (w ∷ ws) xs e =
    go (guessed_value w) (all_in guessed_value ws) (value_read w) (values_read ws) e
  where
    go : (o : Option Value) (p : Option (List Value)) → Reads o → ((ys : List Value) → p ≡ Some ys
        → list_all is_value ys ≡ true) → for_some o (λ x. for_some p (λ xs. Some (x ∷ xs)))
        ≡ Some xs → list_all is_value xs ≡ true
    go None p here later f = absurd (none_some f)
    go (Some x) None here later f = absurd (none_some f)
    go (Some x) (Some ys) here later f =
        subst (λ xs. list_all is_value xs ≡ true) (some_same (x ∷ ys) xs f)
        (both_are (is_value x) (list_all is_value ys) (here x refl) (later ys refl))

-- ---- pairs and ports

abbrev Pairs : Type 0
Pairs = List (ℕ × Value) × List Bytes

abbrev AreRead : Pairs → Type 0
AreRead r = list_all (λ (q : ℕ × Value). is_value q.1) r.0 ≡ true

pairs_read : (n : ℕ) (ws : List Bytes) (r : Pairs) → pairs_in n ws ≡ Some r → AreRead r
pairs_read zero [] r e = subst AreRead (some_same ([], []) r e) refl
pairs_read zero (w ∷ ws) r e = subst AreRead (some_same ([], w ∷ ws) r e) refl
pairs_read (suc n) [] r e = absurd (none_some e)
pairs_read (suc n) (t ∷ []) r e = absurd (none_some e)
pairs_read (suc n) (t ∷ v ∷ ws) r e =
    go (number_up_to 719999998 t) (guessed_value v) (pairs_in n ws) (value_read v) (pairs_read n ws)
    e
  where
    go : (a : Option ℕ) (b : Option Value) (c : Option Pairs) → Reads b
        → ((q : Pairs) → c ≡ Some q → AreRead q)
        → for_some a (λ t. for_some b (λ v. for_some c (λ (q : Pairs). Some ((t, v) ∷ q.0, q.1))))
        ≡ Some r → AreRead r
    go None b c here later f = absurd (none_some f)
    go (Some t) None c here later f = absurd (none_some f)
    go (Some t) (Some v) None here later f = absurd (none_some f)
    go (Some t) (Some v) (Some q) here later f =
        subst AreRead (some_same ((t, v) ∷ q.0, q.1) r f)
        (both_are (is_value v) (list_all (λ (q : ℕ × Value). is_value q.1) q.0) (here v refl)
        (later q refl))

abbrev Port : Type 0
Port = PortState × List Bytes

abbrev PortIsRead : Port → Type 0
PortIsRead r = has_values_in_range r.0 ≡ true

port_read : (ws : List Bytes) (r : Port) → port_state_in ws ≡ Some r → PortIsRead r
port_read [] r e = absurd (none_some e)
port_read (a ∷ []) r e = absurd (none_some e)
port_read (a ∷ b ∷ []) r e = absurd (none_some e)
port_read (a ∷ b ∷ c ∷ ws) r e =
    go (guessed_value a) (guessed_value b) (number_up_to (10 ^ 9) c) (λ n. pairs_in n ws)
    (value_read a) (value_read b) (λ n. pairs_read n ws) e
  where
    go : (x y : Option Value) (z : Option ℕ) (ps : ℕ → Option Pairs) → Reads x → Reads y
        → ((n : ℕ) (q : Pairs) → ps n ≡ Some q → AreRead q)
        → for_some x (λ e. for_some y
        (λ s. for_some z (λ n. for_some (ps n) (λ (q : Pairs). Some (
          record {
            emitted =
                e;
            computed = s;
            pairs = q.0;
          },
          q.1,
        ))))) ≡ Some r → PortIsRead r
    go None y z ps hx hy hp f = absurd (none_some f)
    go (Some e) None z ps hx hy hp f = absurd (none_some f)
    go (Some e) (Some s) None ps hx hy hp f = absurd (none_some f)
    go (Some e) (Some s) (Some n) ps hx hy hp f = last (ps n) (hp n) f
      where
        last : (o : Option Pairs) → ((q : Pairs) → o ≡ Some q → AreRead q)
            → for_some o (λ (q : Pairs). Some (
              record { emitted = e; computed = s; pairs = q.0 },
              q.1,
            )) ≡ Some r → PortIsRead r
        last None h f = absurd (none_some f)
        last (Some q) h f =
            let made : Port = (record { emitted = e; computed = s; pairs = q.0 }, q.1) in
            subst PortIsRead (some_same made r f)
            (both_are (is_value e && is_value s) (list_all (λ (q : ℕ × Value). is_value q.1) q.0)
            (both_are (is_value e) (is_value s) (hx e refl) (hy s refl)) (h q refl))

abbrev Ports : Type 0
Ports = List PortState × List Bytes

abbrev PortsAreRead : Ports → Type 0
PortsAreRead r = list_all has_values_in_range r.0 ≡ true

ports_read : (n : ℕ) (ws : List Bytes) (r : Ports) → ports_in n ws ≡ Some r → PortsAreRead r
ports_read zero ws r e = subst PortsAreRead (some_same ([], ws) r e) refl
ports_read (suc n) ws r e =
    go (port_state_in ws) (λ rest. ports_in n rest) (port_read ws) (λ rest. ports_read n rest) e
  where
    go : (o : Option Port) (more : List Bytes → Option Ports)
        → ((p : Port) → o ≡ Some p → PortIsRead p) → ((rest : List Bytes) (q : Ports)
        → more rest ≡ Some q → PortsAreRead q)
        → for_some o (λ (p : Port). for_some (more p.1) (λ (q : Ports). Some (p.0 ∷ q.0, q.1)))
        ≡ Some r → PortsAreRead r
    go None more here later f = absurd (none_some f)
    go (Some p) more here later f = last (more p.1) (later p.1) f
      where
        last : (o : Option Ports) → ((q : Ports) → o ≡ Some q → PortsAreRead q)
            → for_some o (λ (q : Ports). Some (p.0 ∷ q.0, q.1)) ≡ Some r → PortsAreRead r
        last None h f = absurd (none_some f)
        last (Some q) h f = subst PortsAreRead (some_same (p.0 ∷ q.0, q.1) r f)
            (both_are (has_values_in_range p.0) (list_all has_values_in_range q.0) (here p refl)
            (h q refl))

-- ---- a leaf

-- a box that is read is of its leaf's class and settings
box_read : (name : Bytes) (class : Class) (settings : List ℤ) (ws : List Bytes) (s : LeafState)
    → leaf_state_in (atomic_leaf name class settings) ws ≡ Some s
    → (state : List ℤ) × (s ≡ box_state (record {
      kind = class;
      settings = settings;
      state =
          state;
    }))
box_read name class settings ws s e =
    let k = some_there (all_in (signed_in (10 ^ 17)) ws)
    (λ words. Some (box_state (record { kind = class; settings = settings; state = words }))) s
    e in
    (k.0, sym (some_same _ s k.2))

-- the values of a cell that is read are in range
abbrev CellIsRead : LeafState → Type 0
CellIsRead (box_state b) = ⊥
CellIsRead (cell_state c) = (list_all has_values_in_range c.ports ≡ true)
    × (list_all is_value c.variables ≡ true)

cell_read : (g : Group) (first cell : ℕ) (ws : List Bytes) (s : LeafState)
    → leaf_state_in (cell_leaf g first cell) ws ≡ Some s → CellIsRead s
cell_read g first cell ws s e =
    go (ports_in (suc (length g.ports)) ws) (ports_read (suc (length g.ports)) ws) e
  where
    go : (o : Option Ports) → ((q : Ports) → o ≡ Some q → PortsAreRead q)
        → for_some o (λ (q : Ports). for_some (all_in guessed_value q.1)
        (λ xs. Some (cell_state (record { ports = q.0; variables = xs })))) ≡ Some s → CellIsRead s
    go None h f = absurd (none_some f)
    go (Some q) h f = last (all_in guessed_value q.1) (values_read q.1) f
      where
        last : (o : Option (List Value)) → ((xs : List Value) → o ≡ Some xs
            → list_all is_value xs ≡ true)
            → for_some o (λ xs. Some (cell_state (record { ports = q.0; variables = xs }))) ≡ Some s
            → CellIsRead s
        last None k f = absurd (none_some f)
        last (Some xs) k f = subst CellIsRead
            (some_same (cell_state (record { ports = q.0; variables = xs })) s f) (
              h q refl,
              k xs refl,
            )

leaf_read : (t : ℕ) (l : Leaf) (line : Bytes) (s : LeafState) → read_leaf t l line ≡ Some s
    → IsStateAfter t l s
leaf_read t (atomic_leaf name class settings) line s e =
    let k = leaf_there t (atomic_leaf name class settings)
    (leaf_state_in (atomic_leaf name class settings) (drop 2 (line_words line))) s
    (written_there (leaf_line (atomic_leaf name class settings)) line _ s e) in
    let b = box_read name class settings (drop 2 (line_words line)) s k.0 in
    let good = subst (λ x. is_leaf_state t (atomic_leaf name class settings) x ≡ true) b.1 k.1 in
    subst (IsStateAfter t (atomic_leaf name class settings)) (sym b.1) (refl, refl, good)
leaf_read t (cell_leaf g first cell) line s e =
    let k = leaf_there t (cell_leaf g first cell) (leaf_state_in (cell_leaf g first cell)
    (drop 2 (line_words line))) s
    (written_there (leaf_line (cell_leaf g first cell)) line _ s e) in
    by s k.1 (cell_read g first cell (drop 2 (line_words line)) s k.0)
  where
    by : (s : LeafState) → is_leaf_state t (cell_leaf g first cell) s ≡ true → CellIsRead s
        → IsStateAfter t (cell_leaf g first cell) s
    by (box_state b) h c = absurd c
    by (cell_state x) h c = (h, c.0, c.1)

-- ---- line after line

ok_same : {A B : Type 0} (x y : A) → ◌≡◌ {A = Result A B} (Ok x) (Ok y) → x ≡ y
ok_same x y e = cc

taken : {A B : Type 0} (n : ℕ) (read : Bytes → Option A) (go : A → List Bytes
    → Result B StateRefusal) (b : B) (parts : List Bytes) → next_line n read parts go ≡ Ok b
    → (line : Bytes) × (rest : List Bytes) × (x : A) × (read line ≡ Some x) × (go x rest ≡ Ok b)
taken n read go b [] e = absurd cc
taken n read go b (line ∷ []) e = absurd cc
taken {A} {B} n read go b (line ∷ next ∷ more) e = by (read line) refl e
  where
    by : (o : Option A) → read line ≡ o
        → (elim o as (λ x. Result B StateRefusal) [
          | None ↦ Err (BadStateLine n)
          | Some x ↦ go x
              (next ∷ more)
        ]) ≡ Ok b
        → (line : Bytes) × (rest : List Bytes) × (x : A) × (read line ≡ Some x) × (go x rest ≡ Ok b)
    by None f h = absurd cc
    by (Some x) f h = (line, next ∷ more, x, f, h)

no_leaves : (n : ℕ) (ss : List LeafState) (rest : List Bytes) → nothing_more n [] rest ≡ Ok ss
    → ss ≡ []
no_leaves n ss ([] ∷ []) e = sym (ok_same [] ss e)
no_leaves n ss [] e = absurd cc
no_leaves n ss ([] ∷ next ∷ more) e = absurd cc
no_leaves n ss ((c ∷ cs) ∷ more) e = absurd cc

leaves_read : (n t : ℕ) (ls : List Leaf) (parts : List Bytes) (ss : List LeafState)
    → leaves_in n t ls parts ≡ Ok ss → AllZip (IsStateAfter t) ls ss
leaves_read n t [] parts ss e =
    let k = taken n (just (codes "end")) (λ e rest. nothing_more (n + 1) [] rest) ss parts e in
    subst (AllZip (IsStateAfter t) []) (sym (no_leaves (n + 1) ss k.1 k.4)) tt
leaves_read n t (l ∷ ls) parts ss e =
    let k = taken n (read_leaf t l) (λ s rest. elim (leaves_in (n + 1) t ls rest)
    [ Err e ↦ Err e | Ok ss ↦ Ok (s ∷ ss) ]) ss parts e in
    by k.2 (leaf_read t l k.0 k.2 k.3) (leaves_in (n + 1) t ls k.1) (leaves_read (n + 1) t ls k.1)
    k.4
  where
    by : (s : LeafState) → IsStateAfter t l s → (r : Result (List LeafState) StateRefusal)
        → ((xs : List LeafState) → r ≡ Ok xs → AllZip (IsStateAfter t) ls xs)
        → (elim r as (λ x. Result (List LeafState) StateRefusal)
        [ Err e ↦ Err e | Ok xs ↦ Ok (s ∷ xs) ]) ≡ Ok ss → AllZip (IsStateAfter t) (l ∷ ls) ss
    by s here (Err e) rest h = absurd cc
    by s here (Ok xs) rest h =
        subst (AllZip (IsStateAfter t) (l ∷ ls)) (ok_same (s ∷ xs) ss h) (here, rest xs refl)

-- ---- the whole text

abbrev IsReadSo : Tree → ℕ → Saved → Type 0
IsReadSo tree end s = (s.time ≤ end) × AreStatesAfter s.time tree s.states

not_past : (end t : ℕ) → nat_lt end t ≡ false → t ≤ end
not_past end t h = grind (arith, nat_tests)

at_read : (tree : Tree) (end t : ℕ) (parts : List Bytes) (s : Saved)
    → state_at end t (leaves tree) parts ≡ Ok s → IsReadSo tree end s
at_read tree end t parts s e = by (nat_lt end t) refl e
  where
    found : t ≤ end → (r : Result (List LeafState) StateRefusal) → leaves_in 3 t (leaves tree) parts
        ≡ r
        → (elim r as (λ x. Result Saved StateRefusal) [
          | Err e ↦ Err e
          | Ok ss ↦ Ok (record {
            time =
                t;
            states = ss;
          })
        ]) ≡ Ok s → IsReadSo tree end s
    found le (Err e) f h = absurd cc
    found le (Ok ss) f h =
        subst (IsReadSo tree end) (ok_same (record { time = t; states = ss }) s h) (
          le,
          leaves_read 3 t (leaves tree) parts ss f,
        )

    by : (b : Bool) → nat_lt end t ≡ b
        → cond b (Err (EndBefore 2)) (elim (leaves_in 3 t (leaves tree) parts)
        as (λ x. Result Saved StateRefusal) [
          | Err e ↦ Err e
          | Ok ss ↦ Ok (record {
            time =
                t;
            states = ss;
          })
        ]) ≡ Ok s → IsReadSo tree end s
    by true f h = absurd cc
    by false f h = found (not_past end t f) (leaves_in 3 t (leaves tree) parts) refl h

in_size : (tree : Tree) (end : ℕ) (bytes : Bytes) (s : Saved) (b : Bool)
    → cond b (Err (TooLarge 0)) (next_line 1 (just (codes "state 1"))
    (slice_split (λ c. c == 10) bytes) (λ first rest. next_line 2 read_at rest
    (λ t rest. state_at end t (leaves tree) rest))) ≡ Ok s
    → IsReadSo tree end s
in_size tree end bytes s true e = absurd cc
in_size tree end bytes s false e =
    let k = taken 1 (just (codes "state 1")) (λ first rest. next_line 2 read_at rest
    (λ t rest. state_at end t (leaves tree) rest)) s (slice_split (λ c. c == 10) bytes) e in
    let m = taken 2 read_at (λ t rest. state_at end t (leaves tree) rest) s k.1 k.4 in
    at_read tree end m.2 m.1 s m.4

pub state_read : (tree : Tree) (end : ℕ) (bytes : Bytes) (s : Saved)
    → state_of bytes tree end ≡ Ok s → IsReadSo tree end s
state_read tree end bytes s e = in_size tree end bytes s (nat_lt 268435456 (length bytes)) e
