-- Lists cut at an element that passes a test.
use Rattle.std.proofs.Common.{◌≡◌, suc, ◌+◌, ◌≤◌, Bool, true, false, cond, not, List, [], ◌∷◌, refl, ap, sym, ◌∙◌, arith, length, inl, inr, ◌⊎◌}
use Rattle.std.proofs.lemmas.Bool.{cases_lt}
use Rattle.std.proofs.lemmas.List.{take_all, drop_all}
use Rattle.std.proofs.lemmas.List.Splits.{slice_split_first}
use Rattle.std.specs.List.{slice_split, onto_first, position_or_len, before_first, after_first}

module _ {X : Type 0} (p : X → Bool) where
  pub slice_split_whole : (xs : List X) → length xs ≤ position_or_len p xs → slice_split p xs ≡ xs ∷ []
  slice_split_whole [] h = refl
  slice_split_whole (x ∷ xs) h = at (p x) h (slice_split_whole xs)
    where
      at : (b : Bool) → suc (length xs) ≤ cond (not b) (1 + position_or_len p xs) 0 → (length xs ≤ position_or_len p xs → slice_split p xs ≡ xs ∷ []) → cond b ([] ∷ slice_split p xs) (onto_first x (slice_split p xs)) ≡ (x ∷ xs) ∷ []
      at true h rest = absurd (omega arith)
      at false h rest = ap (onto_first x) (rest (omega arith))

  -- a list has no such element, or is cut there
  pub cut : (xs : List X) (d : X) → (slice_split p xs ≡ before_first p xs ∷ slice_split p (after_first p xs)) ⊎ ((slice_split p xs ≡ before_first p xs ∷ []) × (after_first p xs ≡ []))
  cut xs d =
      elim (cases_lt (position_or_len p xs) (length xs)) [
        | inl h ↦ inl (slice_split_first p xs d h)
        | inr h ↦ inr (slice_split_whole xs h ∙ ap (λ ys. ys ∷ []) (sym (take_all _ xs h)), drop_all _ xs (omega arith))
      ]
