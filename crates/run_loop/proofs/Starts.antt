-- The values with which frames begin.
use Rattle.std.proofs.Common.{◌≡◌, ℕ, zero, suc, ◌+◌, ◌≤◌, Bool, true, false, cond, Option, Some, None, List, ◌∷◌, length, map, replicate, nat_lt, refl, sym, ap, ◌∙◌, arith}
use Rattle.std.specs.Prelude.{if◌then◌else◌, slice_get}
use Rattle.std.specs.List.{range_with_len}
use Rattle.std.proofs.lemmas.List.{length-map}
use Rattle.std.proofs.lemmas.List.FromFn.{length-range_with_len}
use Rattle.std.proofs.lemmas.Bool.Decides.{nat_tests}
use Rattle.quantity.specs.declared.value.Value.{Value}
use Rattle.quantity.specs.declared.value.Value.TheVariants.{Undefined}
use Rattle.cell_grid.specs.Space.{cell_count}
use Rattle.model_tree.specs.Tree.{Group}
use Rattle.text_forms.specs.Frames.{Picture}
use Rattle.text_forms.specs.StateOf.{Saved}
use Rattle.frame_draw.specs.Drawing.{value_of_cell}
use Rattle.answer_model.specs.RunFiles.{emitted_of, emitted_before}
use Rattle.run_loop.specs.Showing.{Showing, showing_none, showing_from}

-- ---- no value is known

none_known : (a n : ℕ) → replicate n Undefined ≡ map (λ (cell : ℕ). Undefined) (range_with_len a n)
none_known a zero = refl
none_known a (suc n) = ap (λ (values : List Value). let vs : List Value = Undefined ∷ values in vs) (none_known (a + 1) n)

pub none_from : (first : ℕ) (p : Picture) → showing_none first p ≡ showing_from first p (λ cell. Undefined)
none_from first p = ap (λ (values : List Value). let w : Showing = record { first = first; drawing = record { picture = p; values = values; begun = None } } in w) (none_known 0 (cell_count p.space))

-- ---- each cell has a value

pub values_length : (start : ℕ → Value) (n : ℕ) → length (map start (range_with_len 0 n)) ≡ n
values_length start n = length-map (range_with_len 0 n) start ∙ length-range_with_len 0 n

-- none but the first cells have a value
abbrev pub IsUndefinedFrom : ℕ → (ℕ → Value) → Type 0
IsUndefinedFrom n start = (cell : ℕ) → n ≤ cell → start cell ≡ Undefined

at_place : (start : ℕ → Value) (a n k : ℕ) → value_of_cell (map start (range_with_len a n)) k ≡ cond (nat_lt k n) (start (a + k)) Undefined
at_place start a zero k = let test : false ≡ nat_lt k 0 = grind (arith, nat_tests) in ap (λ b. cond b (start (a + k)) Undefined) test
at_place start a (suc n) zero = ap start (none a) ∙ (let test : true ≡ nat_lt 0 (suc n) = grind (arith, nat_tests) in ap (λ b. cond b (start (a + 0)) Undefined) test)
  where
    none : (a : ℕ) → a ≡ a + 0
    none a = omega arith
at_place start a (suc n) (suc k) = at_place start (a + 1) n k ∙ ap (λ m. cond (nat_lt k n) (start m) Undefined) (one_more a k) ∙ ap (λ b. cond b (start (a + suc k)) Undefined) (same k n)
  where
    one_more : (a k : ℕ) → a + 1 + k ≡ a + suc k
    one_more a k = omega arith

    same : (k n : ℕ) → nat_lt k n ≡ nat_lt (suc k) (suc n)
    same k n = grind (arith, nat_tests)

not_below : (k n : ℕ) → nat_lt k n ≡ false → n ≤ k
not_below k n e = grind (arith, nat_tests)

-- the values that are kept are those of the start
pub values_are : (start : ℕ → Value) (n : ℕ) → IsUndefinedFrom n start → (cell : ℕ) → value_of_cell (map start (range_with_len 0 n)) cell ≡ start cell
values_are start n none cell = at_place start 0 n cell ∙ ap (λ k. cond (nat_lt cell n) (start k) Undefined) (whole cell) ∙ by (nat_lt cell n) refl
  where
    whole : (k : ℕ) → 0 + k ≡ k
    whole k = omega arith

    by : (b : Bool) → nat_lt cell n ≡ b → cond b (start cell) Undefined ≡ start cell
    by true e = refl
    by false e = sym (none cell (not_below cell n e))

-- cells have emitted values, and nothing else has
pub emitted_inside : (from : Option Saved) (g : ℕ × Group) → IsUndefinedFrom (cell_count g.1.space) (emitted_before from g)
emitted_inside None g = λ cell le. refl
emitted_inside (Some s) g = λ cell le. ap (λ b. if b then emitted_of (slice_get s.states (g.0 + cell)) else Undefined) (past cell (cell_count g.1.space) le)
  where
    past : (k n : ℕ) → n ≤ k → nat_lt k n ≡ false
    past k n le = grind (arith, nat_tests)
