-- What is left of a list.
use Rattle.std.proofs.Common.{◌≡◌, ℕ, ◌+◌, ◌-◌, ◌<◌, List, [], ◌∷◌, length, take, drop, get_or, suc, sym, ap, ◌∙◌, arith, add-one}
use Rattle.std.proofs.lemmas.List.{take_all, drop_all, length-drop}
use Rattle.std.proofs.Math.Seq.{drop-cons}

-- what is left of a list, from one of its items on
pub drop_here : {A : Type 0} (xs : List A) (i : ℕ) (x : A) → i < length xs → x ≡ get_or xs i x
    → drop i xs ≡ x ∷ drop (i + 1) xs
drop_here xs i x h is =
    drop-cons xs i x h ∙ ap (λ k. k ∷ drop (suc i) xs) (sym is)
    ∙ ap (λ k. x ∷ drop k xs) (sym (add-one i))

-- the same, where the item is looked up with another one in reserve
pub drop_next : {A : Type 0} (xs : List A) (i : ℕ) (x : A) → i < length xs
    → drop i xs ≡ get_or xs i x ∷ drop (i + 1) xs
drop_next xs i x h =
    drop-cons xs i x h ∙ ap (λ k. get_or xs i x ∷ drop k xs) (sym (add-one i))

-- what is left of a list behind its last item
pub drop_end : {A : Type 0} (xs : List A) → drop (length xs) xs ≡ []
drop_end xs = drop_all (length xs) xs (omega arith)

-- a slice to the end is what is left from its start on
pub slice_rest : {A : Type 0} (xs : List A) (k : ℕ)
    → take (length xs - k) (drop k xs) ≡ drop k xs
slice_rest xs k = take_all (length xs - k) (drop k xs) (omega (arith, length-drop k xs))
