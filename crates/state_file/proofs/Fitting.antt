-- The states that a text gives fit the leaves of a sound model.
use Rattle.std.proofs.Common.{◌≡◌, ℕ, suc, ◌+◌, ◌==◌, ◌&&◌, Bool, true, false, cond}
use Rattle.std.proofs.Common.{Option, Some, None, List, [], ◌∷◌, refl, sym, ap, ◌∙◌, subst}
use Rattle.std.proofs.Common.{length, nat_lt}
use Rattle.std.specs.Prelude.{Result, Ok, Err, IfOk, drop, codes}
use Rattle.std.specs.List.{All, AllZip, list_all, slice_split}
use Rattle.std.specs.Str.{bytes_eq}
use Rattle.std.proofs.lemmas.Bool.{and_parts}
use Rattle.std.proofs.lemmas.List.Elements.{All-head, All-tail}
use Rattle.quantity.specs.declared.bounds.TheConstants.{MAX_LOG_BYTES}
use Rattle.quantity.specs.Bytes.{Bytes}
use Rattle.quantity.specs.ValueTexts.{signed_in}
use Rattle.quantity.specs.Written.{for_some, if_written}
use Rattle.model_tree.specs.Tree.{Group, Tree, Leaf, atomic_leaf, cell_leaf, leaves}
use Rattle.model_tree.specs.Sound.{is_sound_model}
use Rattle.run_model.specs.Cycle.{LeafState, box_state, cell_state}
use Rattle.run_model.specs.Fitting.{Fits, FitsTree}
use Rattle.run_model.proofs.Basics.{none_some, some_same}
use Rattle.text_forms.specs.declared.refusal.StateRefusal.{StateRefusal}
use Rattle.text_forms.specs.declared.refusal.StateRefusal.TheVariants.{EndBefore, TooLarge}
use Rattle.text_forms.specs.LeafStates.{is_leaf_state, is_port_state}
use Rattle.text_forms.specs.StateText.{leaf_line}
use Rattle.text_forms.specs.StateOf.{all_in, if_leaf_state, just, leaf_state_in, leaves_in}
use Rattle.text_forms.specs.StateOf.{next_line, nothing_more, read_at, read_leaf, Saved}
use Rattle.text_forms.specs.StateOf.{state_at, state_of, line_words}
use Rattle.state_file.specs.ReadStates.{ReadStatesFit}
use Rattle.state_file.proofs.Putting.{HasValues, same_number}
use Rattle.state_file.proofs.Sized.{HasSizes, leaves_sized}

-- ---- one leaf

-- what was made of a value, where there is one
record MadeOf {A B : Type 0} (o : Option A) (go : A → Option B) (y : B) : Type 0 where
  from : A
  is : o ≡ Some from
  made : go from ≡ Some y

made_of : {A B : Type 0} (o : Option A) (go : A → Option B) (y : B) → for_some o go ≡ Some y
    → MadeOf o go y
made_of None go y e = absurd (none_some e)
made_of (Some x) go y e = record { from = x; is = refl; made = e }

written : {A : Type 0} (write : A → Bytes) (text : Bytes) (o : Option A) (x : A)
    → if_written write text o ≡ Some x → o ≡ Some x
written write text None x e = e
written write text (Some y) x e = by (bytes_eq (write y) text) e
  where
    by : (b : Bool) → cond b (Some y) None ≡ Some x → Some y ≡ Some x
    by true e = e
    by false e = absurd (none_some e)

-- a state that is of the leaf
held_true : (t : ℕ) (l : Leaf) (s x : LeafState) (b : Bool) → is_leaf_state t l s ≡ b
    → cond b (Some s) None ≡ Some x → is_leaf_state t l x ≡ true
held_true t l s x true is e =
    subst (λ (y : LeafState). is_leaf_state t l y ≡ true) (some_same s x e) is
held_true t l s x false is e = absurd (none_some e)

kept : {A : Type 0} (b : Bool) (s x : A) → cond b (Some s) None ≡ Some x → s ≡ x
kept true s x e = some_same s x e
kept false s x e = absurd (none_some e)

cell_fits : (t : ℕ) (g : Group) (first cell : ℕ) (x : LeafState) → HasValues g
    → is_leaf_state t (cell_leaf g first cell) x ≡ true → Fits (cell_leaf g first cell) x
cell_fits t g first cell (box_state b) sized is = absurd cc
cell_fits t g first cell (cell_state c) sized is =
    let ports = list_all (is_port_state t) c.ports in
    let p = and_parts (ports && (length c.ports == suc (length g.ports)))
    (length c.variables == length g.variables) is in
    let q = and_parts ports (length c.ports == suc (length g.ports)) p.0 in (
      same_number (length c.ports) (suc (length g.ports)) q.1 ∙ ap suc (sym sized.ports),
      same_number (length c.variables) (length g.variables) p.1 ∙ sym sized.variables,
    )

read_fits : (t : ℕ) (l : Leaf) (line : Bytes) (x : LeafState) → HasSizes l
    → read_leaf t l line ≡ Some x → Fits l x
read_fits t (atomic_leaf name class settings) line x sizes e =
    let l = atomic_leaf name class settings in
    let o = leaf_state_in l (drop 2 (line_words line)) in
    let whole = made_of o (λ s. cond (is_leaf_state t l s) (Some s) None) x
    (written (leaf_line l) line (if_leaf_state t l o) x e) in
    let same = kept (is_leaf_state t l whole.from) whole.from x whole.made in
    let words = made_of (all_in (signed_in 100000000000000000) (drop 2 (line_words line)))
    (λ ws. Some (box_state (record { kind = class; settings = settings; state = ws })))
    whole.from whole.is in
    subst (Fits l) (some_same (box_state (record {
      kind = class;
      settings = settings;
      state = words.from;
    })) whole.from words.made ∙ same) (refl, refl)
read_fits t (cell_leaf g first cell) line x sizes e =
    let l = cell_leaf g first cell in
    let o = leaf_state_in l (drop 2 (line_words line)) in
    let whole = made_of o (λ s. cond (is_leaf_state t l s) (Some s) None) x
    (written (leaf_line l) line (if_leaf_state t l o) x e) in
    cell_fits t g first cell x sizes
    (held_true t l whole.from x (is_leaf_state t l whole.from) refl whole.made)

-- ---- line after line

line_keeps : {A B : Type 0} (P : B → Type 0) (n : ℕ) (read : Bytes → Option A) (parts : List Bytes)
    (go : A → List Bytes → Result B StateRefusal)
    → ((line : Bytes) (x : A) (rest : List Bytes) → read line ≡ Some x → IfOk (go x rest) P)
    → IfOk (next_line n read parts go) P
line_keeps {A = A} {B = B} P n read [] go h = tt
line_keeps {A = A} {B = B} P n read (line ∷ []) go h = tt
line_keeps {A = A} {B = B} P n read (line ∷ next ∷ more) go h = by (read line) refl
  where
    by : (o : Option A) → read line ≡ o
        → IfOk (next_line n (λ l. o) (line ∷ next ∷ more) go) P
    by None is = tt
    by (Some x) is = h line x (next ∷ more) is

nothing_keeps : (n : ℕ) (parts : List Bytes)
    → IfOk (nothing_more {A = List LeafState} n [] parts) (AllZip Fits [])
nothing_keeps n [] = tt
nothing_keeps n ([] ∷ []) = tt
nothing_keeps n ([] ∷ next ∷ more) = tt
nothing_keeps n ((c ∷ cs) ∷ more) = tt

leaves_fit : (n t : ℕ) (ls : List Leaf) (parts : List Bytes) → All HasSizes ls
    → IfOk (leaves_in n t ls parts) (AllZip Fits ls)
leaves_fit n t [] parts sized =
    line_keeps (AllZip Fits []) n (just (codes "end")) parts
    (λ e rest. nothing_more (n + 1) [] rest) (λ line e rest is. nothing_keeps (n + 1) rest)
leaves_fit n t (l ∷ ls) parts sized =
    line_keeps (AllZip Fits (l ∷ ls)) n (read_leaf t l) parts
    (λ s rest. elim (leaves_in (n + 1) t ls rest) [ Err e ↦ Err e | Ok ss ↦ Ok (s ∷ ss) ])
    (λ line s rest is. by s (leaves_in (n + 1) t ls rest)
    (read_fits t l line s (All-head HasSizes l ls sized) is)
    (leaves_fit (n + 1) t ls rest (All-tail HasSizes l ls sized)))
  where
    by : (s : LeafState) (r : Result (List LeafState) StateRefusal) → Fits l s
        → IfOk r (AllZip Fits ls)
        → IfOk (elim r as (λ x. Result (List LeafState) StateRefusal) [
          | Err e ↦ Err e
          | Ok ss ↦ Ok (s ∷ ss)
        ]) (AllZip Fits (l ∷ ls))
    by s (Err e) fit fits = tt
    by s (Ok ss) fit fits = (fit, fits)

abbrev FitTo : Tree → Saved → Type 0
FitTo tree saved = FitsTree tree saved.states

unless_keeps : (P : Saved → Type 0) (b : Bool) (e : StateRefusal) (r : Result Saved StateRefusal)
    → IfOk r P → IfOk (cond b (Err e) r) P
unless_keeps P true e r h = tt
unless_keeps P false e r h = h

-- the leaves as a state of this time
abbrev saved_at : ℕ → Result (List LeafState) StateRefusal → Result Saved StateRefusal
saved_at t r =
    elim r as (λ x. Result Saved StateRefusal) [
      | Err e ↦ Err e
      | Ok ss ↦ Ok (record { time = t; states = ss })
    ]

at_fits : (tree : Tree) (end t : ℕ) (parts : List Bytes) → All HasSizes (leaves tree)
    → IfOk (state_at end t (leaves tree) parts) (FitTo tree)
at_fits tree end t parts sized =
    let read = leaves_in 3 t (leaves tree) parts in
    unless_keeps (FitTo tree) (nat_lt end t) (EndBefore 2) (saved_at t read)
    (by read (leaves_fit 3 t (leaves tree) parts sized))
  where
    by : (r : Result (List LeafState) StateRefusal) → IfOk r (AllZip Fits (leaves tree))
        → IfOk (saved_at t r) (FitTo tree)
    by (Err e) fits = tt
    by (Ok ss) fits = fits

-- ---- the whole text

state_fits : (bytes : Bytes) (tree : Tree) (end : ℕ) → is_sound_model tree ≡ true
    → IfOk (state_of bytes tree end) (FitTo tree)
state_fits bytes tree end sound =
    let sized = leaves_sized tree sound in
    let behind : ℕ → List Bytes → Result Saved StateRefusal =
    λ t rest. state_at end t (leaves tree) rest in
    let second : Bytes → List Bytes → Result Saved StateRefusal =
    λ first rest. next_line 2 read_at rest behind in
    let parts = slice_split (λ c. c == 10) bytes in
    unless_keeps (FitTo tree) (nat_lt MAX_LOG_BYTES (length bytes)) (TooLarge 0)
    (next_line 1 (just (codes "state 1")) parts second)
    (line_keeps (FitTo tree) 1 (just (codes "state 1")) parts second
    (λ line first rest is. line_keeps (FitTo tree) 2 read_at rest behind
    (λ line t rest is. at_fits tree end t rest sized)))

pub read_states_fit : ReadStatesFit
read_states_fit bytes tree end saved sound is =
    subst (λ (r : Result Saved StateRefusal). IfOk r (FitTo tree)) is
    (state_fits bytes tree end sound)
