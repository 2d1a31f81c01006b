-- As many are given as there are, where one is given of each.
use Rattle.std.proofs.Common.{◌≡◌, ℕ, suc, length, Bool, true, false, Option, Some, None, List, [], ◌∷◌, refl, ap}
use Rattle.std.specs.Prelude.{◌==◌, ◌&&◌}
use Rattle.std.specs.List.{cons_option, filter_map, list_all}
use Rattle.std.specs.Option.{is_some}

module _ {A B : Type 0} (f : A → Option B) where
  all_given : (xs : List A) → list_all (λ x. is_some (f x)) xs ≡ true → length (filter_map f xs) ≡ length xs
  all_given [] h = refl
  all_given (x ∷ xs) h = by (f x) (all_given xs) h
    where
      by : (o : Option B) → (list_all (λ x. is_some (f x)) xs ≡ true → length (filter_map f xs) ≡ length xs) → (is_some o && list_all (λ x. is_some (f x)) xs) ≡ true
          → length (cons_option o (filter_map f xs)) ≡ suc (length xs)
      by None more h = cc
      by (Some y) more h = ap suc (more h)

  pub as_many : (n : ℕ) (xs : List A) → (list_all (λ x. is_some (f x)) xs && (length (filter_map f xs) == n)) ≡ (list_all (λ x. is_some (f x)) xs && (length xs == n))
  as_many n xs = by (list_all (λ x. is_some (f x)) xs) (all_given xs)
    where
      by : (b : Bool) → (b ≡ true → length (filter_map f xs) ≡ length xs) → (b && (length (filter_map f xs) == n)) ≡ (b && (length xs == n))
      by true h = ap (λ k. k == n) (h refl)
      by false h = refl
