-- Rising lists of numbers are told apart by their members.
use Rattle.std.proofs.Common.{◌≡◌, ℕ, ◌+◌, ◌<◌, ◌≤◌, Bool, true, false, ◌||◌, ◌&&◌, ltb, eqb, cond, List, [], ◌∷◌, length, get_or, inl, inr, refl, sym, subst, ap, ◌∙◌, arith}
use Rattle.std.specs.Ordering.{nat_cmp}
use Rattle.std.specs.declared.cmp.Ordering.TheVariants.{Less, Equal, Greater}
use Rattle.std.specs.List.{list_any, AllByRecursion, Contains, dedup, filter, range_with_len}
use Rattle.std.specs.List.Sorted.{IsStrictlySortedBy, IsStrictlyIncreasing}
use Rattle.std.proofs.lemmas.Bool.{cases_order, cases_lt, cases_eq, eq-eqb, ne_eqb, le-ltb, lt-ltb, eqb-true, ltb-true, or_from, or_left, true≢false, false≢true}
use Rattle.std.proofs.lemmas.Map.Keys.{sorted_head, sorted_tail}
use Rattle.std.proofs.lemmas.List.Folds.{Any-from_list_any, list_any-from_Any}
use Rattle.std.proofs.lemmas.List.Kept.{Contains-dedup_nat, Contains-from_dedup}
use Rattle.std.proofs.lemmas.List.FromFn.{length-range_with_len, get_or-range_with_len}

-- whether a list has a number
abbrev pub has : List ℕ → ℕ → Bool
has xs x = list_any (λ y. eqb y x) xs

not_less : (b : Bool) → cond b Equal Greater ≡ Less → ⊥
not_less true is = cc
not_less false is = cc

less-from_cmp : (x y : ℕ) → nat_cmp x y ≡ Less → x < y
less-from_cmp x y is =
    elim (cases_lt x y) [ inl less ↦ less | inr greater ↦ absurd (not_less (eqb x y) (rw (le-ltb x y greater) at is)) ]

above_lacks : (x z : ℕ) (xs : List ℕ) → z ≤ x → AllByRecursion (λ y. nat_cmp x y ≡ Less) xs → has xs z ≡ false
above_lacks x z [] low above = refl
above_lacks x z (y ∷ ys) low above =
    let less : x < y = less-from_cmp x y above.0 in
    or_from (eqb y z) (has ys z) (ne_eqb y z (λ e. omega arith)) (above_lacks x z ys low above.1)

has_head : (x : ℕ) (xs : List ℕ) → has (x ∷ xs) x ≡ true
has_head x xs = or_left (eqb x x) (has xs x) (eq-eqb x x refl)

-- the head of one list is not below that of the other
not_below : (x y : ℕ) (xs ys : List ℕ) → IsStrictlySortedBy nat_cmp (y ∷ ys) → has (x ∷ xs) x ≡ has (y ∷ ys) x → x < y → ⊥
not_below x y xs ys rises same below =
    let lacks : has (y ∷ ys) x ≡ false =
    or_from (eqb y x) (has ys x) (ne_eqb y x (λ e. omega arith)) (above_lacks y x ys (omega arith) (sorted_head nat_cmp y ys rises)) in
    true≢false (sym (has_head x xs) ∙ same ∙ lacks)

same_heads : (x y : ℕ) (xs ys : List ℕ) → IsStrictlySortedBy nat_cmp (x ∷ xs) → IsStrictlySortedBy nat_cmp (y ∷ ys) → ((z : ℕ) → has (x ∷ xs) z ≡ has (y ∷ ys) z) → x ≡ y
same_heads x y xs ys up rises same =
    elim (cases_order x y) [ inl e ↦ e | inr apart ↦ elim apart [ inl below ↦ absurd (not_below x y xs ys rises (same x) below) | inr above ↦ absurd (not_below y x ys xs up (sym (same y)) above) ] ]

same_tails : (x : ℕ) (xs ys : List ℕ) → IsStrictlySortedBy nat_cmp (x ∷ xs) → IsStrictlySortedBy nat_cmp (x ∷ ys) → ((z : ℕ) → has (x ∷ xs) z ≡ has (x ∷ ys) z) → (z : ℕ) → has xs z ≡ has ys z
same_tails x xs ys up rises same z =
    elim (cases_eq x z) [
      | inl e ↦ above_lacks x z xs (omega arith) (sorted_head nat_cmp x xs up) ∙ sym (above_lacks x z ys (omega arith) (sorted_head nat_cmp x ys rises))
      | inr apart ↦ rw (ne_eqb x z apart) at (same z)
    ]

-- a list without members is empty
pub no_members : (xs : List ℕ) → ((z : ℕ) → has xs z ≡ false) → xs ≡ []
no_members [] none = refl
no_members (x ∷ xs) none = absurd (true≢false (sym (has_head x xs) ∙ none x))

pub same_rising : (xs ys : List ℕ) → IsStrictlySortedBy nat_cmp xs → IsStrictlySortedBy nat_cmp ys → ((z : ℕ) → has xs z ≡ has ys z) → xs ≡ ys
same_rising [] [] up rises same = refl
same_rising [] (y ∷ ys) up rises same = absurd (false≢true (same y ∙ has_head y ys))
same_rising (x ∷ xs) [] up rises same = absurd (true≢false (sym (has_head x xs) ∙ same x))
same_rising (x ∷ xs) (y ∷ ys) up rises same =
    let heads : x ≡ y = same_heads x y xs ys up rises same in
    let Rises : ℕ → Type 0 = λ n. IsStrictlySortedBy nat_cmp (n ∷ ys) in
    let Same : ℕ → Type 0 = λ n. (z : ℕ) → has (x ∷ xs) z ≡ has (n ∷ ys) z in
    let tails : (z : ℕ) → has xs z ≡ has ys z = same_tails x xs ys up (subst Rises (sym heads) rises) (subst Same (sym heads) same) in
    ap (λ n. n ∷ xs) heads ∙ ap (λ l. y ∷ l) (same_rising xs ys (sorted_tail nat_cmp x xs up) (sorted_tail nat_cmp y ys rises) tails)

-- ---- members

pub same_answer : (a b : Bool) → (a ≡ true → b ≡ true) → (b ≡ true → a ≡ true) → a ≡ b
same_answer true true there back = refl
same_answer true false there back = sym (there refl)
same_answer false true there back = back refl
same_answer false false there back = refl

pub Contains-from_has : (xs : List ℕ) (x : ℕ) → has xs x ≡ true → Contains xs x
Contains-from_has xs x is =
    let found = Any-from_list_any (λ y. eqb y x) xs is in
    let e : found.1 ≡ x = eqb-true found.1 x found.4 in
    let At : ℕ → Type 0 = λ n. get_or xs found.0 n ≡ n in
    (found.0, found.2, subst At e found.3)

pub has-from_Contains : (xs : List ℕ) (x : ℕ) → Contains xs x → has xs x ≡ true
has-from_Contains xs x at = list_any-from_Any (λ y. eqb y x) xs (at.0, x, at.1, at.2, eq-eqb x x refl)

pub has-dedup : (xs : List ℕ) (x : ℕ) → has (dedup eqb xs) x ≡ has xs x
has-dedup xs x =
    same_answer (has (dedup eqb xs) x) (has xs x)
    (λ is. has-from_Contains xs x (Contains-from_dedup eqb xs x (Contains-from_has (dedup eqb xs) x is)))
    (λ is. has-from_Contains (dedup eqb xs) x (Contains-dedup_nat xs x (Contains-from_has xs x is)))

filter_step : (e h q t : Bool) → (e ≡ true → t ≡ q) → cond t (e || (h && q)) (h && q) ≡ (e || h) && q
filter_step true h true t agree = rw (agree refl) refl
filter_step true true false t agree = rw (agree refl) refl
filter_step true false false t agree = rw (agree refl) refl
filter_step false h q true agree = refl
filter_step false h q false agree = refl

has-cond : (t : Bool) (xs ys : List ℕ) (x : ℕ) → has (cond t xs ys) x ≡ cond t (has xs x) (has ys x)
has-cond true xs ys x = refl
has-cond false xs ys x = refl

pub has-filter : (p : ℕ → Bool) (xs : List ℕ) (x : ℕ) → has (filter p xs) x ≡ has xs x && p x
has-filter p [] x = refl
has-filter p (y ∷ ys) x =
    has-cond (p y) (y ∷ filter p ys) (filter p ys) x
    ∙ ap (λ h. cond (p y) (eqb y x || h) h) (has-filter p ys x)
    ∙ filter_step (eqb y x) (has ys x) (p x) (p y) (λ e. ap p (eqb-true y x e))

pub has-range : (n x : ℕ) → has (range_with_len 0 n) x ≡ ltb x n
has-range n x =
    same_answer (has (range_with_len 0 n) x) (ltb x n)
    (λ is.
    let at = Contains-from_has (range_with_len 0 n) x is in
    let within : at.0 < n = omega (arith, at.1, length-range_with_len 0 n) in
    lt-ltb x n (omega (arith, at.2, get_or-range_with_len 0 n at.0 x within)))
    (λ is.
    let below : x < n = ltb-true x n is in
    let within : x < length (range_with_len 0 n) = omega (arith, length-range_with_len 0 n) in
    let here : get_or (range_with_len 0 n) x x ≡ x = omega (arith, get_or-range_with_len 0 n x x below) in
    has-from_Contains (range_with_len 0 n) x (x, within, here))

pub range-rises : (n : ℕ) → IsStrictlyIncreasing (range_with_len 0 n)
range-rises n = λ k more.
    let within : k + 1 < n = omega (arith, length-range_with_len 0 n) in
    omega (arith, get_or-range_with_len 0 n k 0 (omega arith), get_or-range_with_len 0 n (k + 1) 0 within)
