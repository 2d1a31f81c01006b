-- A stable sort by a number gives the one list that rises and keeps the order of what ties.
use Rattle.std.proofs.Common.{◌≡◌, ℕ, ◌<◌, ◌≤◌, Bool, true, false, cond, not, ◌&&◌, List, [], ◌∷◌, refl, sym, ap, ◌∙◌, suc, inl, inr, arith, length, get_or, map, nat_le}
use Rattle.std.specs.Prelude.{if◌then◌else◌}
use Rattle.std.proofs.lemmas.Bool.{cases_lt}
use Rattle.std.proofs.lemmas.Bool.Decides.{nat_tests}
use Rattle.std.specs.List.{filter}
use Rattle.std.specs.List.Sorted.{IsNonDecreasingBy, ties}
use Rattle.std.specs.Ordering.{is_lt, nat_cmp}
use Rattle.event_list.specs.declared.event.Event as kept
use Rattle.event_list.specs.Events.{by_time, put_event}
use Rattle.event_list.specs.Shown.{plain_event, time_of}

-- ---- lists that rise

-- no number is below this one
abbrev pub From : {X : Type 0} → (X → ℕ) → ℕ → List X → Type 0
From n t [] = Unit {0}
From n t (x ∷ xs) = (t ≤ n x) × From n t xs

abbrev pub Rises : {X : Type 0} → (X → ℕ) → List X → Type 0
Rises n [] = Unit {0}
Rises n (x ∷ xs) = From n (n x) xs × Rises n xs

pub From-all : {X : Type 0} (n : X → ℕ) (t : ℕ) (xs : List X) → ((k : ℕ) (d : X) → k < length xs → t ≤ n (get_or xs k d)) → From n t xs
From-all n t [] h = tt
From-all n t (x ∷ xs) h = (h 0 x (omega arith), From-all n t xs (λ k d lt. h (suc k) d (omega arith)))

pub Rises-indexed : {X : Type 0} (n : X → ℕ) (xs : List X) → IsNonDecreasingBy n xs → Rises n xs
Rises-indexed n [] h = tt
Rises-indexed n (x ∷ xs) h =
    (From-all n (n x) xs (λ k d lt. h 0 (suc k) d (omega arith) (omega arith)), Rises-indexed n xs (λ i j d le lt. h (suc i) (suc j) d (omega arith) (omega arith)))

From-less : {X : Type 0} (n : X → ℕ) (s t : ℕ) (xs : List X) → s ≤ t → From n t xs → From n s xs
From-less n s t [] le h = tt
From-less n s t (x ∷ xs) le h = let first = h.0 in (omega arith, From-less n s t xs le h.1)

-- ---- what ties

abbrev pub same : {X : Type 0} → (X → ℕ) → X → X → Bool
same n x y = ties (λ a b. is_lt (nat_cmp (n a) (n b))) x y

tie_tells : (a b : ℕ) → not (is_lt (nat_cmp a b)) && not (is_lt (nat_cmp b a)) ≡ true → a ≡ b
tie_tells a b e = grind (arith, nat_tests)

ties_at : (a b : ℕ) → a ≡ b → not (is_lt (nat_cmp a b)) && not (is_lt (nat_cmp b a)) ≡ true
ties_at a b e = grind (arith, nat_tests)

no_tie : (a b : ℕ) (c : Bool) → not (is_lt (nat_cmp a b)) && not (is_lt (nat_cmp b a)) ≡ c → a < b → c ≡ false
no_tie a b true e lt = let is = tie_tells a b e in absurd (omega arith)
no_tie a b false e lt = refl

with_head : {X : Type 0} (p : X → Bool) (x : X) (xs : List X) → p x ≡ true → filter p (x ∷ xs) ≡ x ∷ filter p xs
with_head p x xs e = ap (λ b. cond b (x ∷ filter p xs) (filter p xs)) e

pub without_head : {X : Type 0} (p : X → Bool) (x : X) (xs : List X) → p x ≡ false → filter p (x ∷ xs) ≡ filter p xs
without_head p x xs e = ap (λ b. cond b (x ∷ filter p xs) (filter p xs)) e

none_ties : {X : Type 0} (n : X → ℕ) (x : X) (t : ℕ) (xs : List X) → n x < t → From n t xs → filter (same n x) xs ≡ []
none_ties n x t [] lt h = refl
none_ties n x t (y ∷ ys) lt h =
    let first = h.0 in
    let below : n x < n y = omega arith in
    without_head (same n x) y ys (no_tie (n x) (n y) (same n x y) refl below) ∙ none_ties n x t ys lt h.1

itself : {X : Type 0} (n : X → ℕ) (x : X) (xs : List X) → filter (same n x) (x ∷ xs) ≡ x ∷ filter (same n x) xs
itself n x xs = with_head (same n x) x xs (ties_at (n x) (n x) refl)

tails_by : {X : Type 0} (b : Bool) (x y : X) (xs ys : List X) → x ≡ y → cond b (x ∷ xs) xs ≡ cond b (y ∷ ys) ys → xs ≡ ys
tails_by true x y xs ys e f = cc
tails_by false x y xs ys e f = f

tails_tie : {X : Type 0} (n : X → ℕ) (x y z : X) (ys zs : List X) → y ≡ z → filter (same n x) (y ∷ ys) ≡ filter (same n x) (z ∷ zs) → filter (same n x) ys ≡ filter (same n x) zs
tails_tie n x y z ys zs e f =
    tails_by (same n x y) y z (filter (same n x) ys) (filter (same n x) zs) e
    (f ∙ ap (λ v. cond (same n x v) (z ∷ filter (same n x) zs) (filter (same n x) zs)) (sym e))

same_first : {X : Type 0} (n : X → ℕ) (y z : X) (ys zs : List X) → Rises n (y ∷ ys) → Rises n (z ∷ zs)
    → ((x : X) → filter (same n x) (y ∷ ys) ≡ filter (same n x) (z ∷ zs)) → y ≡ z
same_first n y z ys zs r s h =
    elim (cases_lt (n y) (n z)) [
      | inl lt ↦ absurd (let e : y ∷ filter (same n y) ys ≡ [] = sym (itself n y ys) ∙ h y ∙ none_ties n y (n z) (z ∷ zs) lt (le_refl (n z), s.0) in cc)
      | inr ge ↦ elim (cases_lt (n z) (n y)) [
        | inl lt ↦ absurd (let e : z ∷ filter (same n z) zs ≡ [] = sym (itself n z zs) ∙ sym (h z) ∙ none_ties n z (n y) (y ∷ ys) lt (le_refl (n y), r.0) in cc)
        | inr le ↦ equal ge le
      ]
    ]
  where
    le_refl : (a : ℕ) → a ≤ a
    le_refl a = omega arith

    equal : n z ≤ n y → n y ≤ n z → y ≡ z
    equal ge le =
        let is : n y ≡ n z = omega arith in
        let e : y ∷ filter (same n y) ys ≡ z ∷ filter (same n y) zs = sym (itself n y ys) ∙ h y ∙ with_head (same n y) z zs (ties_at (n y) (n z) is) in
        cc

pub same_order : {X : Type 0} (n : X → ℕ) (ys zs : List X) → Rises n ys → Rises n zs → ((x : X) → filter (same n x) ys ≡ filter (same n x) zs) → ys ≡ zs
same_order n [] [] r s h = refl
same_order n [] (z ∷ zs) r s h = absurd (let e : [] ≡ z ∷ filter (same n z) zs = h z ∙ itself n z zs in cc)
same_order n (y ∷ ys) [] r s h = absurd (let e : y ∷ filter (same n y) ys ≡ [] = sym (itself n y ys) ∙ h y in cc)
same_order n (y ∷ ys) (z ∷ zs) r s h =
    let e = same_first n y z ys zs r s h in
    ap (λ v. v ∷ ys) e ∙ ap (λ vs. z ∷ vs) (same_order n ys zs r.1 s.1 (λ x. tails_tie n x y z ys zs e (h x)))

-- ---- insertion

abbrev pub put_by : {X : Type 0} → (X → ℕ) → X → List X → List X
put_by n e [] = e ∷ []
put_by n e (x ∷ xs) = if nat_le (n e) (n x) then e ∷ x ∷ xs else x ∷ put_by n e xs

abbrev pub sorted_by : {X : Type 0} → (X → ℕ) → List X → List X
sorted_by n [] = []
sorted_by n (x ∷ xs) = put_by n x (sorted_by n xs)

From-put : {X : Type 0} (n : X → ℕ) (t : ℕ) (e : X) (xs : List X) → t ≤ n e → From n t xs → From n t (put_by n e xs)
From-put n t e [] le h = (le, tt)
From-put n t e (x ∷ xs) le h = by (nat_le (n e) (n x)) (From-put n t e xs le h.1)
  where
    by : (b : Bool) → From n t (put_by n e xs) → From n t (if b then e ∷ x ∷ xs else x ∷ put_by n e xs)
    by true rest = (le, h)
    by false rest = (h.0, rest)

Rises-put : {X : Type 0} (n : X → ℕ) (e : X) (xs : List X) → Rises n xs → Rises n (put_by n e xs)
Rises-put n e [] h = (tt, tt)
Rises-put n e (x ∷ xs) h = by (nat_le (n e) (n x)) refl (Rises-put n e xs h.1)
  where
    by : (b : Bool) → nat_le (n e) (n x) ≡ b → Rises n (put_by n e xs) → Rises n (if b then e ∷ x ∷ xs else x ∷ put_by n e xs)
    by true f rest = let le : n e ≤ n x = grind (arith, nat_tests) in ((le, From-less n (n e) (n x) xs le h.0), h)
    by false f rest = let le : n x ≤ n e = grind (arith, nat_tests) in (From-put n (n x) e xs le h.0, rest)

Rises-sorted : {X : Type 0} (n : X → ℕ) (xs : List X) → Rises n (sorted_by n xs)
Rises-sorted n [] = tt
Rises-sorted n (x ∷ xs) = Rises-put n x (sorted_by n xs) (Rises-sorted n xs)

exchanged : {X : Type 0} (p q : Bool) (x y : X) (xs : List X) → (p ≡ true → q ≡ true → ⊥) → cond p (x ∷ cond q (y ∷ xs) xs) (cond q (y ∷ xs) xs) ≡ cond q (y ∷ cond p (x ∷ xs) xs) (cond p (x ∷ xs) xs)
exchanged true true x y xs h = absurd (h refl refl)
exchanged true false x y xs h = refl
exchanged false true x y xs h = refl
exchanged false false x y xs h = refl

filter-put : {X : Type 0} (n : X → ℕ) (v e : X) (xs : List X) → filter (same n v) (put_by n e xs) ≡ filter (same n v) (e ∷ xs)
filter-put n v e [] = refl
filter-put n v e (x ∷ xs) = by (nat_le (n e) (n x)) refl (filter-put n v e xs)
  where
    by : (b : Bool) → nat_le (n e) (n x) ≡ b → filter (same n v) (put_by n e xs) ≡ filter (same n v) (e ∷ xs)
        → filter (same n v) (if b then e ∷ x ∷ xs else x ∷ put_by n e xs) ≡ filter (same n v) (e ∷ x ∷ xs)
    by true f rest = refl
    by false f rest =
        let lt : n x < n e = grind (arith, nat_tests) in
        ap (λ l. cond (same n v x) (x ∷ l) l) rest
        ∙ exchanged (same n v x) (same n v e) x e (filter (same n v) xs) (λ p q. let a = tie_tells (n v) (n x) p in let b = tie_tells (n v) (n e) q in omega arith)

filter-sorted : {X : Type 0} (n : X → ℕ) (v : X) (xs : List X) → filter (same n v) (sorted_by n xs) ≡ filter (same n v) xs
filter-sorted n v [] = refl
filter-sorted n v (x ∷ xs) = filter-put n v x (sorted_by n xs) ∙ ap (λ l. cond (same n v x) (x ∷ l) l) (filter-sorted n v xs)

pub stable_is_sorted : {X : Type 0} (n : X → ℕ) (xs ys : List X) → IsNonDecreasingBy n ys → ((x : X) → filter (same n x) ys ≡ filter (same n x) xs) → ys ≡ sorted_by n xs
stable_is_sorted n xs ys up h = same_order n ys (sorted_by n xs) (Rises-indexed n ys up) (Rises-sorted n xs) (λ x. h x ∙ sym (filter-sorted n x xs))

-- ---- the same of events

shown-put : (e : kept.Event) (xs : List kept.Event) → map plain_event (put_by time_of e xs) ≡ put_event (plain_event e) (map plain_event xs)
shown-put e [] = refl
shown-put e (x ∷ xs) = by (nat_le (time_of e) (time_of x)) (shown-put e xs)
  where
    by : (b : Bool) → map plain_event (put_by time_of e xs) ≡ put_event (plain_event e) (map plain_event xs)
        → map plain_event (if b then e ∷ x ∷ xs else x ∷ put_by time_of e xs) ≡ (if b then plain_event e ∷ plain_event x ∷ map plain_event xs else plain_event x ∷ put_event (plain_event e) (map plain_event xs))
    by true rest = refl
    by false rest = ap (λ l. plain_event x ∷ l) rest

pub shown-sorted : (xs : List kept.Event) → map plain_event (sorted_by time_of xs) ≡ by_time (map plain_event xs)
shown-sorted [] = refl
shown-sorted (x ∷ xs) = shown-put x (sorted_by time_of xs) ∙ ap (put_event (plain_event x)) (shown-sorted xs)
