-- Lists that are made item by item.
use Rattle.std.proofs.Common.{◌≡◌, ◌<◌, ◌+◌, ◌*◌, ℕ, List, [], ◌∷◌, ◌++◌, map, take, set, get_or, length, sym, ◌∙◌, ap, arith}
use Rattle.std.specs.List.{flat_map}
use Rattle.std.proofs.lemmas.List.{map_more, take_more, take_more_set, flat_map_more}
use Rattle.std.proofs.Math.Nat.{add-mul}

-- one item more of what a step makes of each item
pub one_more : {A B : Type 0} (f : A → B) (xs : List A) (i : ℕ) (x : A) (ys : List B) (y : B) → i < length xs → x ≡ get_or xs i x → ys ≡ map f (take i xs) → y ≡ f x
    → ys ++ y ∷ [] ≡ map f (take (i + 1) xs)
one_more f xs i x ys y here is made own =
    ap (λ zs. zs ++ y ∷ []) made ∙ ap (λ z. map f (take i xs) ++ z ∷ []) (own ∙ ap f is) ∙ sym (map_more f xs i x here)

-- one item more of a copy
pub copied_more : {A : Type 0} (xs ys : List A) (i : ℕ) (x y : A) → i < length xs → x ≡ get_or xs i x → ys ≡ take i xs → y ≡ x → ys ++ y ∷ [] ≡ take (i + 1) xs
copied_more xs ys i x y here is made own = (λ k. made k ++ (own ∙ is) k ∷ []) ∙ sym (take_more xs i x here)

-- one item more of what a step puts at its place
pub set_more : {A B : Type 0} (f : A → B) (xs : List A) (ys : List B) (i : ℕ) (x : A) (y : B) → i < length xs → length ys ≡ length xs → take i ys ≡ map f (take i xs) → y ≡ f (get_or xs i x)
    → take (i + 1) (set ys i y) ≡ map f (take (i + 1) xs)
set_more f xs ys i x y here long made own =
    take_more_set ys i y (omega (arith, here, long)) ∙ (λ k. made k ++ own k ∷ []) ∙ sym (map_more f xs i x here)

-- one item more of what a step makes a list of
pub joined_more : {A B : Type 0} (f : A → List B) (xs : List A) (i : ℕ) (x : A) (ys zs : List B) → i < length xs → ys ≡ flat_map f (take i xs) → zs ≡ ys ++ f (get_or xs i x)
    → zs ≡ flat_map f (take (i + 1) xs)
joined_more f xs i x ys zs here made own =
    own ∙ ap (λ vs. vs ++ f (get_or xs i x)) made ∙ flat_map_more f [] (take i xs) (get_or xs i x) ∙ ap (flat_map f) (sym (take_more xs i x here))

-- and its length
pub longer : (m n i w : ℕ) → m ≡ i * w → n ≡ m + w → n ≡ (i + 1) * w
longer m n i w before own = omega (arith, before, own, add-mul i 1 w)
