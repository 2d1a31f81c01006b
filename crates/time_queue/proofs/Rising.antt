-- Rising lists of the same numbers are the same.
use Rattle.std.proofs.Common.{◌≡◌, ℕ, ◌<◌, ◌≤◌, zero, suc, Bool, cond, leb, List, [], ◌∷◌, length, get_or, refl, sym, ap, arith, ⊎_elim}
use Rattle.std.specs.List.{filter, range_with_len, sum_by}
use Rattle.std.specs.List.Sorted.{IsNonDecreasingBy}
use Rattle.std.proofs.lemmas.Bool.{cases_order, le-leb, lt-leb}
use Rattle.std.proofs.lemmas.List.Sums.{sum_by-cons}
use Rattle.std.proofs.lemmas.List.Kept.{IsNonDecreasingBy-filter}
use Rattle.std.proofs.lemmas.List.FromFn.{length-range_with_len, get_or-range_with_len}

abbrev Rising : List ℕ → Type 0
Rising xs = IsNonDecreasingBy (λ x. x) xs

abbrev at_most : ℕ → ℕ → ℕ
at_most x y = cond (leb y x) 1 0

rising_rest : (x : ℕ) (xs : List ℕ) → Rising (x ∷ xs) → Rising xs
rising_rest x xs up = λ i j d le lt. up (suc i) (suc j) d (omega arith) (omega arith)

none_above : (x : ℕ) (ys : List ℕ) → ((j : ℕ) → j < length ys → x < get_or ys j 0) → sum_by (at_most x) ys ≡ 0
none_above x [] above = refl
none_above x (y ∷ ys) above =
    let first : x < y = above zero (omega arith) in
    let rest = none_above x ys (λ j lt. above (suc j) (omega arith)) in
    let zero_first : at_most x y ≡ 0 = ap (λ b. cond b 1 0) (lt-leb y x first) in
    omega (arith, sum_by-cons (at_most x) y ys, rest, zero_first)

head_not_below : (x y : ℕ) (xs ys : List ℕ) → Rising (y ∷ ys) → sum_by (at_most x) (x ∷ xs) ≡ sum_by (at_most x) (y ∷ ys) → x < y → ⊥
head_not_below x y xs ys up same lt =
    let none = none_above x (y ∷ ys) (λ j within. let le : y ≤ get_or (y ∷ ys) j 0 = up zero j 0 (omega arith) within in omega arith) in
    let one : at_most x x ≡ 1 = ap (λ b. cond b 1 0) (le-leb x x (omega arith)) in
    omega (arith, same, none, one, sum_by-cons (at_most x) x xs)

heads_same : (x y : ℕ) (xs ys : List ℕ) → Rising (x ∷ xs) → Rising (y ∷ ys) → ((f : ℕ → ℕ) → sum_by f (x ∷ xs) ≡ sum_by f (y ∷ ys)) → x ≡ y
heads_same x y xs ys up up' same =
    ⊎_elim (λ is. is) (λ ne. absurd (⊎_elim (head_not_below x y xs ys up' (same (at_most x))) (head_not_below y x ys xs up (sym (same (at_most y)))) ne)) (cases_order x y)

rests_same : (x y : ℕ) (xs ys : List ℕ) (f : ℕ → ℕ) → x ≡ y → sum_by f (x ∷ xs) ≡ sum_by f (y ∷ ys) → sum_by f xs ≡ sum_by f ys
rests_same x y xs ys f is same = omega (arith, same, ap f is, sum_by-cons f x xs, sum_by-cons f y ys)

pub same_rising : (xs ys : List ℕ) → Rising xs → Rising ys → ((f : ℕ → ℕ) → sum_by f xs ≡ sum_by f ys) → xs ≡ ys
same_rising [] [] up up' same = refl
same_rising [] (y ∷ ys) up up' same = absurd (omega (arith, same (λ _. 1), sum_by-cons (λ _. 1) y ys))
same_rising (x ∷ xs) [] up up' same = absurd (omega (arith, same (λ _. 1), sum_by-cons (λ _. 1) x xs))
same_rising (x ∷ xs) (y ∷ ys) up up' same =
    let heads = heads_same x y xs ys up up' same in
    let rest : xs ≡ ys = same_rising xs ys (rising_rest x xs up) (rising_rest y ys up') (λ f. rests_same x y xs ys f heads (same f)) in
    λ t. heads t ∷ rest t

rising_range : (a n : ℕ) → Rising (range_with_len a n)
rising_range a n = λ i j d le lt. omega (arith, length-range_with_len a n, get_or-range_with_len a n i d (omega (arith, length-range_with_len a n)), get_or-range_with_len a n j d (omega (arith, length-range_with_len a n)))

pub rising_picked : (p : ℕ → Bool) (a n : ℕ) → Rising (filter p (range_with_len a n))
rising_picked p a n = IsNonDecreasingBy-filter (λ x. x) p (range_with_len a n) (rising_range a n)
