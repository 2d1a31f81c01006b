-- Numbers to each of which the same is added.
use Rattle.std.proofs.Common.{◌≡◌, ℕ, zero, suc, ◌+◌, ◌-◌, ◌<◌, Bool, true, false, ◌&&◌, ◌||◌, eqb, leb, List, [], ◌∷◌, ◌++◌, map, length, take, drop, get_or, refl, sym, ◌∙◌, ap, subst, arith}
use Rattle.std.specs.Prelude.{slice_set, slice_index_or}
use Rattle.std.proofs.lemmas.List.Edits.{map_over_more}
use Rattle.std.specs.List.{All}
use Rattle.std.proofs.lemmas.Bool.Decides.{nat_tests}
use Rattle.std.proofs.lemmas.List.{get_or-map, length-map}
use Rattle.quantity.specs.Bytes.{has_number}

one-moved : (by x k : ℕ) → eqb (by + x) k ≡ (leb by k && eqb x (k - by))
one-moved by x k = grind (arith, nat_tests)

spread : (a b c : Bool) → ((a && b) || (a && c)) ≡ (a && (b || c))
spread true b c = refl
spread false b c = refl

none-moved : (a : Bool) → false ≡ (a && false)
none-moved true = refl
none-moved false = refl

-- the members are those moved on
pub among-moved : (by : ℕ) (xs : List ℕ) (k : ℕ) → has_number (map (λ x. by + x) xs) k ≡ (leb by k && has_number xs (k - by))
among-moved by [] k = none-moved (leb by k)
among-moved by (x ∷ xs) k =
    (λ i. one-moved by x k i || among-moved by xs k i) ∙ spread (leb by k) (eqb x (k - by)) (has_number xs (k - by))

pub all-moved : (by n : ℕ) (xs : List ℕ) → All (λ x. x < n) xs → All (λ x. x < by + n) (map (λ x. by + x) xs)
all-moved by n xs all = λ k d within.
    let lt : k < length xs = (let long = length-map xs (λ x. by + x) in omega (arith, long, within)) in
    let below : get_or xs k 0 < n = all k 0 lt in
    subst (λ (y : ℕ). y < by + n) (sym (get_or-map (λ x. by + x) xs k 0 d lt)) (omega (arith, below))

pub nothing-moved : (by : ℕ) (xs : List ℕ) → by ≡ 0 → xs ≡ map (λ k. by + k) xs
nothing-moved by [] none = refl
nothing-moved by (x ∷ xs) none =
    let here : x ≡ by + x = omega (arith, none) in
    λ i. here i ∷ nothing-moved by xs none i

pub moved-more : (by : ℕ) (xs ys : List ℕ) (i : ℕ) → i < length xs → length ys ≡ length xs → ys ≡ map (λ k. by + k) (take i xs) ++ drop i xs
    → slice_set ys i (slice_index_or ys i 0 + by) ≡ map (λ k. by + k) (take (i + 1) xs) ++ drop (i + 1) xs
moved-more by xs ys i lt long is =
    let x = slice_index_or ys i 0 in
    ap (slice_set ys i) (swapped x by) ∙ map_over_more (λ k. by + k) xs ys i x lt is (get_or-any ys i 0 x (omega (arith, lt, long)))
  where
    swapped : (x y : ℕ) → x + y ≡ y + x
    swapped x y = omega arith

    get_or-any : (ys : List ℕ) (i d e : ℕ) → i < length ys → get_or ys i d ≡ get_or ys i e
    get_or-any [] i d e lt = absurd (omega (arith, lt))
    get_or-any (y ∷ ys) zero d e lt = refl
    get_or-any (y ∷ ys) (suc i) d e lt = get_or-any ys i d e (omega (arith, lt))
