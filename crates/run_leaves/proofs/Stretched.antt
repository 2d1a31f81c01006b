-- Stretches of leaves, by the first leaf of each.
use Rattle.std.proofs.Common.{◌≡◌, ℕ, zero, suc, ◌+◌, ◌-◌, ◌<◌, ◌≤◌, Bool, true, false, Some, List, [], ◌∷◌, ◌++◌, length, inl, inr, refl, ◌∙◌, ap, arith, add-one, length-append}
use Rattle.std.specs.Prelude.{nat_le, slice_get}
use Rattle.std.proofs.lemmas.Bool.{cases_lt, le-leb}
use Rattle.std.proofs.lemmas.Bool.Decides.{nat_tests}
use Rattle.run_leaves.specs.Stretched.{Stretched, with_leaf, with_stretch, one_more, begun_at, number_at, numbers_of, AreFrom, Rising, AreUpTo, AreStretches}
use Rattle.run_leaves.proofs.Joined.{get-left, get-right}

-- ---- how many stretches have begun

pub later : (s k : ℕ) → k < s → nat_le s k ≡ false
later s k lt = grind (arith, nat_tests)

pub one-at-most : (b : Bool) (m n : ℕ) → m ≤ n → one_more b m ≤ suc n
one-at-most true m n le = omega (arith, le)
one-at-most false m n le = omega arith

-- all that begin no later
begun-all : (starts : List ℕ) (n : ℕ) → AreUpTo n starts → begun_at starts n ≡ length starts
begun-all [] n below = refl
begun-all (s ∷ starts) n below =
    ap (λ b. one_more b (begun_at starts n)) (le-leb s n below.0) ∙ ap suc (begun-all starts n below.1)

pub begun-few : (starts : List ℕ) (k : ℕ) → begun_at starts k ≤ length starts
begun-few [] k = omega arith
begun-few (s ∷ starts) k = one-at-most (nat_le s k) (begun_at starts k) (length starts) (begun-few starts k)

-- a later one has not begun
begun-kept : (starts : List ℕ) (n k : ℕ) → k < n → begun_at (starts ++ n ∷ []) k ≡ begun_at starts k
begun-kept [] n k lt = ap (λ b. one_more b 0) (later n k lt)
begun-kept (s ∷ starts) n k lt = ap (one_more (nat_le s k)) (begun-kept starts n k lt)

-- ---- a further start

from-more : (s n : ℕ) (starts : List ℕ) → AreFrom s starts → s ≤ n → AreFrom s (starts ++ n ∷ [])
from-more s n [] from le = (le, tt)
from-more s n (t ∷ starts) from le = (from.0, from-more s n starts from.1 le)

rising-more : (starts : List ℕ) (n : ℕ) → Rising starts → AreUpTo n starts → Rising (starts ++ n ∷ [])
rising-more [] n rising below = (tt, tt)
rising-more (s ∷ starts) n rising below =
    (from-more s n starts rising.0 below.0, rising-more starts n rising.1 below.1)

below-more : (starts : List ℕ) (n : ℕ) → AreUpTo n starts → AreUpTo n (starts ++ n ∷ [])
below-more [] n below = (omega arith, tt)
below-more (s ∷ starts) n below = (below.0, below-more starts n below.1)

below-on : (starts : List ℕ) (n : ℕ) → AreUpTo n starts → AreUpTo (n + 1) starts
below-on [] n below = tt
below-on (s ∷ starts) n below = (let le = below.0 in omega (arith, le), below-on starts n below.1)

-- ---- the numbers of leaves

pub numbers-long : (starts : List ℕ) (n : ℕ) → length (numbers_of starts n) ≡ n
numbers-long starts zero = refl
numbers-long starts (suc n) =
    let before = numbers-long starts n in
    let longer = length-append (numbers_of starts n) (number_at starts n ∷ []) in
    omega (arith, before, longer)

pub number-there : (starts : List ℕ) (n k : ℕ) → k < n → slice_get (numbers_of starts n) k ≡ Some (number_at starts k)
number-there starts zero k lt = absurd (omega (arith, lt))
number-there starts (suc n) k lt =
    elim (cases_lt k n) [
      | inl before ↦ get-left (numbers_of starts n) (number_at starts n ∷ []) k (number_at starts k) (number-there starts n k before)
      | inr after ↦
          let long = numbers-long starts n in
          let same : n ≡ k = omega (arith, lt, after) in
          get-right (numbers_of starts n) (number_at starts n ∷ []) 0 k (number_at starts k) (omega (arith, long, same)) (ap (λ j. Some (number_at starts j)) same)
    ]

numbers-kept : (starts : List ℕ) (n m : ℕ) → m ≤ n → numbers_of (starts ++ n ∷ []) m ≡ numbers_of starts m
numbers-kept starts n zero le = refl
numbers-kept starts n (suc m) le =
    let before = numbers-kept starts n m (omega (arith, le)) in
    let here = begun-kept starts n m (omega (arith, le)) in
    λ i. before i ++ (here i - 1) ∷ []

begun-numbers : (starts : List ℕ) (n : ℕ) → AreUpTo n starts → numbers_of (starts ++ n ∷ []) (n + 1) ≡ numbers_of starts n ++ length starts ∷ []
begun-numbers starts n below =
    let all = begun-all (starts ++ n ∷ []) n (below-more starts n below) in
    let longer = length-append starts (n ∷ []) in
    let last : number_at (starts ++ n ∷ []) n ≡ length starts = omega (arith, all, longer) in
    let before = numbers-kept starts n n (omega arith) in
    ap (numbers_of (starts ++ n ∷ [])) (add-one n) ∙ (λ i. before i ++ last i ∷ [])

gone-numbers : (starts : List ℕ) (n : ℕ) → AreUpTo n starts → numbers_of starts (n + 1) ≡ numbers_of starts n ++ (length starts - 1) ∷ []
gone-numbers starts n below =
    let all = begun-all starts n below in
    ap (numbers_of starts) (add-one n) ∙ (λ i. numbers_of starts n ++ (all i - 1) ∷ [])

-- ---- a further leaf

abbrev pub shown : List ℕ → ℕ → Stretched
shown starts n = record { numbers = numbers_of starts n; many = length starts }

pub begun-shown : (starts : List ℕ) (n : ℕ) → AreUpTo n starts → shown (starts ++ n ∷ []) (n + 1) ≡ with_stretch (shown starts n)
begun-shown starts n below =
    let numbers = begun-numbers starts n below in
    let many : length (starts ++ n ∷ []) ≡ length starts + 1 = length-append starts (n ∷ []) in
    λ i. record { numbers = numbers i; many = many i }

pub gone-shown : (starts : List ℕ) (n : ℕ) → AreUpTo n starts → shown starts (n + 1) ≡ with_leaf (shown starts n)
gone-shown starts n below =
    let numbers = gone-numbers starts n below in
    λ i. record { numbers = numbers i; many = length starts }

-- where there is one stretch, or none, all leaves are in the first
one-number : (starts : List ℕ) (k : ℕ) → length starts ≤ 1 → number_at starts k ≡ 0
one-number starts k le = let few = begun-few starts k in omega (arith, few, le)

pub begun-stretches : (starts : List ℕ) (near made n : ℕ) → AreStretches starts near n → (length (starts ++ n ∷ []) ≡ 1 → made ≡ n + 1) → (1 < length (starts ++ n ∷ []) → made ≡ near)
    → AreStretches (starts ++ n ∷ []) made (n + 1)
begun-stretches starts near made n is one more =
    let longer : length (starts ++ n ∷ []) ≡ length starts + 1 = length-append starts (n ∷ []) in
    elim (cases_lt 1 (length (starts ++ n ∷ []))) [
      | inl many ↦
          let same = more many in
          let end = is.near_end in
          record {
            rising = rising-more starts n is.rising is.below;
            below = below-on (starts ++ n ∷ []) n (below-more starts n is.below);
            some = λ lt. omega (arith, longer);
            near_end = omega (arith, same, end);
            near_first = λ k lt.
                let before : k < near = omega (arith, lt, same) in
                let first = is.near_first k before in
                ap (λ m. m - 1) (begun-kept starts n k (omega (arith, before, end))) ∙ first;
          }
      | inr few ↦
          let same = one (omega (arith, few, longer)) in
          record {
            rising = rising-more starts n is.rising is.below;
            below = below-on (starts ++ n ∷ []) n (below-more starts n is.below);
            some = λ lt. omega (arith, longer);
            near_end = omega (arith, same);
            near_first = λ k lt. one-number (starts ++ n ∷ []) k few;
          }
    ]

pub gone-stretches : (starts : List ℕ) (near made n : ℕ) → AreStretches starts near n → 0 < length starts → (length starts ≡ 1 → made ≡ n + 1) → (1 < length starts → made ≡ near)
    → AreStretches starts made (n + 1)
gone-stretches starts near made n is begun one more =
    elim (cases_lt 1 (length starts)) [
      | inl many ↦
          let same = more many in
          let end = is.near_end in
          record {
            rising = is.rising;
            below = below-on starts n is.below;
            some = λ lt. begun;
            near_end = omega (arith, same, end);
            near_first = λ k lt. is.near_first k (omega (arith, lt, same));
          }
      | inr few ↦
          let same = one (omega (arith, few, begun)) in
          record {
            rising = is.rising;
            below = below-on starts n is.below;
            some = λ lt. begun;
            near_end = omega (arith, same);
            near_first = λ k lt. one-number starts k few;
          }
    ]
