-- One instant, one frame.
use Rattle.std.proofs.Common.{◌≡◌, ℕ, ◌<◌, ◌==◌, ◌&&◌, not, Bool, true, false, cond, Option, Some, None, List, [], ◌∷◌, ◌++◌, refl, sym, ap, ◌∙◌, subst, arith, length, get_or, set, nat_le, append-nil, length-set, get_or-set_same, get_or-set_other}
use Rattle.std.specs.Option.{unwrap_or}
use Rattle.std.specs.List.{AllByRecursion, filter, filter_map, flat_map, last_or, cons_option}
use Rattle.std.proofs.lemmas.Bool.Decides.{nat_tests}
use Rattle.quantity.specs.declared.value.Value.{Value}
use Rattle.quantity.specs.declared.value.Value.TheVariants.{Undefined}
use Rattle.text_forms.specs.Frames.{Picture, ShownCell, instants, value_until, value_drawn, frames, frame_text}
use Rattle.frame_draw.specs.Drawing.{value_of_cell}
use Rattle.frame_draw.specs.Instants.{values_after, IsShownAt, OneFrame}

last_from : {A : Type 0} (x : A) (ys : List A) (d : A) → unwrap_or (last_or (Some x) ys) d ≡ unwrap_or (last_or None ys) x
last_from x [] d = refl
last_from x (y ∷ ys) d = some_last y ys d x
  where
    some_last : {A : Type 0} (y : A) (ys : List A) (d e : A) → unwrap_or (last_or (Some y) ys) d ≡ unwrap_or (last_or (Some y) ys) e
    some_last y [] d e = refl
    some_last y (z ∷ zs) d e = some_last z zs d e

kept_size : (values : List Value) (cell n t : ℕ) (v : Value) (ss : List ShownCell) → AllByRecursion (IsShownAt (length values) t) ss → AllByRecursion (IsShownAt (length (set values cell v)) t) ss
kept_size values cell n t v ss h = subst (λ (k : ℕ). AllByRecursion (IsShownAt k t) ss) (sym (length-set values cell v)) h

same_cell : (a b : ℕ) → (a == b) ≡ true → a ≡ b
same_cell a b e = grind (arith, nat_tests)

other_cell : (a b : ℕ) → (a == b) ≡ false → b ≡ a → ⊥
other_cell a b e f = grind (arith, nat_tests)

no_later : (s t : ℕ) → s ≡ t → nat_le s t ≡ true
no_later s t e = grind (arith, nat_tests)

shown_value : (values : List Value) (t cell : ℕ) (s : ShownCell) → IsShownAt (length values) t s → (more : List Value) (b : Bool) → (s.cell == cell) ≡ b → unwrap_or (last_or None (cons_option (value_until t cell s) more)) (value_of_cell values cell) ≡ unwrap_or (last_or None more) (value_of_cell (set values s.cell s.value) cell)
shown_value values t cell s h more true e =
    let here = ap (λ b. b && (s.cell == cell)) (no_later s.time t h.0) ∙ e in
    let lt = h.1 in
    ap (λ b. unwrap_or (last_or None (cons_option (cond b (Some s.value) None) more)) (value_of_cell values cell)) here
    ∙ last_from s.value more (value_of_cell values cell)
    ∙ ap (unwrap_or (last_or None more)) (sym (get_or-set_same values s.cell s.value Undefined lt) ∙ ap (λ k. get_or (set values s.cell s.value) k Undefined) (same_cell s.cell cell e))
shown_value values t cell s h more false e =
    let here = ap (λ b. b && (s.cell == cell)) (no_later s.time t h.0) ∙ e in
    ap (λ b. unwrap_or (last_or None (cons_option (cond b (Some s.value) None) more)) (value_of_cell values cell)) here
    ∙ ap (unwrap_or (last_or None more)) (sym (get_or-set_other values s.cell cell s.value Undefined (other_cell s.cell cell e)))

values_are : (values : List Value) (t cell : ℕ) (ss : List ShownCell) → AllByRecursion (IsShownAt (length values) t) ss → value_drawn (value_of_cell values) ss t cell ≡ value_of_cell (values_after values ss) cell
values_are values t cell [] h = refl
values_are values t cell (s ∷ ss) h =
    shown_value values t cell s h.0 (filter_map (value_until t cell) ss) (s.cell == cell) refl
    ∙ values_are (set values s.cell s.value) t cell ss (kept_size values s.cell 0 t s.value ss h.1)

all_dropped : (t : ℕ) (ts : List ℕ) → AllByRecursion (λ u. u ≡ t) ts → filter (λ u. not (u == t)) ts ≡ []
all_dropped t [] h = refl
all_dropped t (u ∷ us) h = ap (λ b. cond b (u ∷ filter (λ u. not (u == t)) us) (filter (λ u. not (u == t)) us)) (same u h.0) ∙ all_dropped t us h.1
  where
    same : (u : ℕ) → u ≡ t → not (u == t) ≡ false
    same u e = grind (arith, nat_tests)

fewer : (t : ℕ) (q : ℕ → Bool) (ts : List ℕ) → AllByRecursion (λ u. u ≡ t) ts → AllByRecursion (λ u. u ≡ t) (filter q ts)
fewer t q [] h = h
fewer t q (u ∷ us) h = by (fewer t q us h.1) (q u)
  where
    by : AllByRecursion (λ u. u ≡ t) (filter q us) → (b : Bool) → AllByRecursion (λ u. u ≡ t) (cond b (u ∷ filter q us) (filter q us))
    by more true = (h.0, more)
    by more false = more

all_at : (n t : ℕ) (ss : List ShownCell) → AllByRecursion (IsShownAt n t) ss → AllByRecursion (λ u. u ≡ t) (instants ss)
all_at n t [] h = h
all_at n t (s ∷ ss) h = (h.0.0, fewer t (λ u. not (u == s.time)) (instants ss) (all_at n t ss h.1))

one_instant : (n t : ℕ) (s : ShownCell) (ss : List ShownCell) → AllByRecursion (IsShownAt n t) (s ∷ ss) → instants (s ∷ ss) ≡ t ∷ []
one_instant n t s ss h =
    ap (λ (u : ℕ). u ∷ filter (λ v. not (v == u)) (instants ss)) h.0.0 ∙ ap (λ (us : List ℕ). t ∷ us) (all_dropped t (instants ss) (all_at n t ss h.1))

one_frame_is : (p : Picture) (values : List Value) (t : ℕ) (s : ShownCell) (ss : List ShownCell) → AllByRecursion (IsShownAt (length values) t) (s ∷ ss) → frames p (value_of_cell values) (s ∷ ss) ≡ frame_text p t (value_of_cell (values_after values (s ∷ ss)))
one_frame_is p values t s ss h =
    ap (flat_map (λ u. frame_text p u (value_drawn (value_of_cell values) (s ∷ ss) u))) (one_instant (length values) t s ss h)
    ∙ append-nil (frame_text p t (value_drawn (value_of_cell values) (s ∷ ss) t))
    ∙ (λ i. frame_text p t (λ cell. values_are values t cell (s ∷ ss) h i))

pub one_frame : OneFrame
one_frame = record { frame = one_frame_is; values = values_are }
