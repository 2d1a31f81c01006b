-- How often numbers stand in lists, and what holds of messages that wait.
use Rattle.std.proofs.Common.{◌≡◌, inl, inr, ℕ, zero, suc, ◌+◌, ◌<◌, ◌≤◌, Bool, true, Some, List, [], ◌∷◌, ◌++◌, map, refl, sym, ◌∙◌, ap, subst, arith}
use Rattle.std.specs.Prelude.{slice_get, ◌==◌, remove}
use Rattle.std.specs.List.{AllByRecursion, list_all, range_with_len}
use Rattle.std.proofs.lemmas.Bool.{eq-eqb, ne_eqb, cases_eq, and_parts, and_from}
use Rattle.served_tree.specs.Service.{Message}
use Rattle.served_tree.specs.Course.{owner, one_if, times}

pub times-append : (x : ℕ) (xs ys : List ℕ) → times x (xs ++ ys) ≡ times x xs + times x ys
times-append x [] ys = omega arith
times-append x (y ∷ xs) ys = let h = times-append x xs ys in omega (arith, h)

pub one_if-same : (x y : ℕ) → y ≡ x → one_if (y == x) ≡ 1
one_if-same x y e = ap one_if (eq-eqb y x e)

pub one_if-other : (x y : ℕ) → (y ≡ x → ⊥) → one_if (y == x) ≡ 0
one_if-other x y e = ap one_if (ne_eqb y x e)

pub one_if-pos : (x y : ℕ) → 1 ≤ one_if (y == x) → y ≡ x
one_if-pos x y le = elim (cases_eq y x) [
  | inl e ↦ e
  | inr ne ↦ absurd (omega (arith, le, one_if-other x y ne))
]

pub times-one : (x y : ℕ) → 1 ≤ times x (y ∷ []) → y ≡ x
times-one x y le = one_if-pos x y (omega (arith, le))

-- all of a list passes, and so does each of its numbers
pub all-at : (f : ℕ → Bool) (xs : List ℕ) → list_all f xs ≡ true → (x : ℕ) → 1 ≤ times x xs
    → f x ≡ true
all-at f [] is x le = absurd (omega (arith, le))
all-at f (y ∷ ys) is x le =
    let both = and_parts (f y) (list_all f ys) is in
    elim (cases_eq y x) [
      | inl e ↦ ap f (sym e) ∙ both.0
      | inr ne ↦ all-at f ys both.1 x (omega (arith, le, one_if-other x y ne))
    ]

pub all-from : (f : ℕ → Bool) (xs : List ℕ) → ((x : ℕ) → 1 ≤ times x xs → f x ≡ true)
    → list_all f xs ≡ true
all-from f [] each = refl
all-from f (y ∷ ys) each =
    and_from (f y) (list_all f ys)
    (each y (omega (arith, one_if-same y y refl)))
    (all-from f ys (λ x le. each x (omega (arith, le))))

-- ---- lists of messages

pub each-append : {X : Type 0} (P : X → Type 0) (xs ys : List X) → AllByRecursion P xs
    → AllByRecursion P ys → AllByRecursion P (xs ++ ys)
each-append P [] ys h k = k
each-append P (x ∷ xs) ys h k = (h.0, each-append P xs ys h.1 k)

pub each-weaker : (P Q : Message → Type 0) (ms : List Message) → AllByRecursion P ms
    → ((m : Message) → P m → 1 ≤ times (owner m) (map owner ms) → Q m) → AllByRecursion Q ms
each-weaker P Q [] h f = tt
each-weaker P Q (m ∷ ms) h f = (
  f m h.0 (omega (arith, one_if-same (owner m) (owner m) refl)),
  each-weaker P Q ms h.1 (λ k p le. f k p (omega (arith, le))),
)

-- a number that stands among the owners is that of a message of which this holds
pub each-found : (P : Message → Type 0) (ms : List Message) (x : ℕ) → AllByRecursion P ms
    → 1 ≤ times x (map owner ms) → (m : Message) × P m × (owner m ≡ x)
each-found P [] x h le = absurd (omega (arith, le))
each-found P (m ∷ ms) x h le = elim (cases_eq (owner m) x) [
  | inl e ↦ (m, h.0, e)
  | inr ne ↦ each-found P ms x h.1 (omega (arith, le, one_if-other x (owner m) ne))
]

-- one message is taken out
pub each-remove : (P : Message → Type 0) (ms : List Message) (k : ℕ) (m : Message)
    → slice_get ms k ≡ Some m → AllByRecursion P ms → P m × AllByRecursion P (remove ms k)
each-remove P [] k m is h = absurd cc
each-remove P (n ∷ ms) zero m is h = let same : n ≡ m = cc in (subst P same h.0, h.1)
each-remove P (n ∷ ms) (suc k) m is h = let rest = each-remove P ms k m is h.1 in (rest.0, (h.0, rest.1))

pub times-remove : (ms : List Message) (k : ℕ) (m : Message) (x : ℕ) → slice_get ms k ≡ Some m
    → times x (map owner ms) ≡ one_if (owner m == x) + times x (map owner (remove ms k))
times-remove [] k m x is = absurd cc
times-remove (n ∷ ms) zero m x is = let same : n ≡ m = cc in ap (λ a. one_if (owner a == x) + times x (map owner ms)) same
times-remove (n ∷ ms) (suc k) m x is = let h = times-remove ms k m x is in omega (arith, h)

pub map-append-owner : (ms ns : List Message) → map owner (ms ++ ns) ≡ map owner ms ++ map owner ns
map-append-owner [] ns = refl
map-append-owner (m ∷ ms) ns = ap (λ l. owner m ∷ l) (map-append-owner ms ns)

-- ---- numbers from one on

pub times-range : (a n x : ℕ) → 1 ≤ times x (range_with_len a n) → (a ≤ x) × (x < a + n)
times-range a zero x le = absurd (omega (arith, le))
times-range a (suc n) x le = elim (cases_eq a x) [
  | inl e ↦ (omega (arith, e), omega (arith, e))
  | inr ne ↦ let h = times-range (a + 1) n x (omega (arith, le, one_if-other x a ne)) in (omega (arith, h), omega (arith, h))
]

pub range-times : (a n x : ℕ) → a ≤ x → x < a + n → times x (range_with_len a n) ≡ 1
range-times a zero x low high = absurd (omega (arith, low, high))
range-times a (suc n) x low high = elim (cases_eq a x) [
  | inl e ↦ elim (cases_eq (times x (range_with_len (a + 1) n)) 0) [
    | inl none ↦ omega (arith, none, one_if-same x a e)
    | inr some ↦ let h = times-range (a + 1) n x (omega (arith, some)) in absurd (omega (arith, h, e))
  ]
  | inr ne ↦ let h = range-times (a + 1) n x (omega (arith, ne, low)) (omega (arith, high)) in omega (arith, h, one_if-other x a ne)
]
