-- Counts of served messages, and one more.
use Rattle.std.proofs.Common.{◌≡◌, ◌⊎◌, inl, inr, ℕ, zero, suc, ◌+◌, ◌*◌, ◌<◌, ◌≤◌, Option, Some, None, List, [], ◌∷◌, length, set, refl, sym, ◌∙◌, ap, arith}
use Rattle.std.specs.Prelude.{slice_get, ◌==◌}
use Rattle.std.proofs.lemmas.Bool.{cases_eq}
use Rattle.std.proofs.lemmas.List.{length-set}
use Rattle.served_tree.specs.Processors.{Processor}
use Rattle.served_tree.specs.Service.{Kept, kept_with_change}
use Rattle.served_tree.specs.Course.{Counts, parent_in, InStep, one_if, total}
use Rattle.served_tree.proofs.Times.{one_if-same, one_if-other}

-- one message more of a processor has been served
abbrev pub bump : Counts → ℕ → Counts
bump c n x = one_if (n == x) + c x

pub bump-same : (c : Counts) (n : ℕ) → bump c n n ≡ suc (c n)
bump-same c n = omega (arith, one_if-same n n refl)

pub bump-other : (c : Counts) (n x : ℕ) → (x ≡ n → ⊥) → bump c n x ≡ c x
bump-other c n x ne = omega (arith, one_if-other x n (λ e. ne (sym e)))

pub bump-le : (c : Counts) (n x : ℕ) → c x ≤ bump c n x
bump-le c n x = omega arith

-- ---- the sum

total-past : (c : Counts) (n N : ℕ) → N ≤ n → total (bump c n) N ≡ total c N
total-past c n zero le = refl
total-past c n (suc N) le = let h = total-past c n N (omega (arith, le)) in omega (arith, h, one_if-other N n (λ e. omega (arith, e, le)))

pub total-bump : (c : Counts) (n N : ℕ) → n < N → total (bump c n) N ≡ suc (total c N)
total-bump c n zero lt = absurd (omega (arith, lt))
total-bump c n (suc N) lt = elim (cases_eq n N) [
  | inl e ↦ let h = total-past c n N (omega (arith, e)) in omega (arith, h, one_if-same N n e)
  | inr ne ↦ let h = total-bump c n N (omega (arith, lt, ne)) in omega (arith, h, one_if-other N n ne)
]

pub total-zero : (N : ℕ) → total (λ x. 0) N ≡ 0
total-zero zero = refl
total-zero (suc N) = let h = total-zero N in omega (arith, h)

pub total-all : (c : Counts) (N : ℕ) → ((n : ℕ) → n < N → c n ≡ 4) → total c N ≡ 4 * N
total-all c zero each = omega arith
total-all c (suc N) each = let h = total-all c N (λ n lt. each n (omega (arith, lt))) in omega (arith, h, each N (omega arith))

pub total-most : (c : Counts) (N : ℕ) → ((n : ℕ) → n < N → c n ≤ 4) → total c N ≤ 4 * N
total-most c zero each = omega arith
total-most c (suc N) each = let h = total-most c N (λ n lt. each n (omega (arith, lt))) in omega (arith, h, each N (omega arith))

-- ---- a processor and its child

pub grow-parent : (q m : ℕ) → InStep q m → (q ≡ 1 → 1 < m) → (q ≡ 3 → 3 < m) → (q ≡ 4 → ⊥)
    → InStep (suc q) m
grow-parent q m (inl h) one three four = inr (inl (omega (arith, h), omega (arith, h)))
grow-parent q m (inr (inl h)) one three four = let k = one h.0 in inr (inr (inl (omega (arith, h), omega (arith, h, k))))
grow-parent q m (inr (inr (inl h))) one three four = inr (inr (inr (inl (omega (arith, h), omega (arith, h), omega (arith, h)))))
grow-parent q m (inr (inr (inr (inl h)))) one three four = let k = three h.0 in inr (inr (inr (inr (omega (arith, h), omega (arith, h, k)))))
grow-parent q m (inr (inr (inr (inr h)))) one three four = absurd (four h.0)

pub grow-child : (q m : ℕ) → InStep q m → (m ≡ 0 → 0 < q) → (m ≡ 2 → 2 < q) → (m ≡ 4 → ⊥)
    → InStep q (suc m)
grow-child q m (inl h) zero' two four = let k = zero' h.1 in absurd (omega (arith, h, k))
grow-child q m (inr (inl h)) zero' two four = elim (cases_eq m 2) [
  | inl e ↦ let k = two e in absurd (omega (arith, h, k))
  | inr ne ↦ inr (inl (h.0, omega (arith, h, ne)))
]
grow-child q m (inr (inr (inl h))) zero' two four = let k = two h.1 in absurd (omega (arith, h, k))
grow-child q m (inr (inr (inr (inl h)))) zero' two four = elim (cases_eq m 4) [
  | inl e ↦ absurd (four e)
  | inr ne ↦ inr (inr (inr (inl (h.0, omega (arith, h), omega (arith, h, ne)))))
]
grow-child q m (inr (inr (inr (inr h)))) zero' two four = absurd (four h.1)

pub most-child : (q m : ℕ) → InStep q m → m ≤ 4
most-child q m (inl h) = omega (arith, h)
most-child q m (inr (inl h)) = omega (arith, h)
most-child q m (inr (inr (inl h))) = omega (arith, h)
most-child q m (inr (inr (inr (inl h)))) = omega (arith, h)
most-child q m (inr (inr (inr (inr h)))) = omega (arith, h)

-- a child of a processor that has asked, or told, one thing less
pub child-at : (q m k : ℕ) → InStep q m → q ≡ k → (k ≡ 0) ⊎ (k ≡ 2) → m ≡ k
child-at q m k (inl h) e (inl z) = omega (arith, h, e, z)
child-at q m k (inl h) e (inr z) = absurd (omega (arith, h, e, z))
child-at q m k (inr (inl h)) e (inl z) = absurd (omega (arith, h, e, z))
child-at q m k (inr (inl h)) e (inr z) = absurd (omega (arith, h, e, z))
child-at q m k (inr (inr (inl h))) e (inl z) = absurd (omega (arith, h, e, z))
child-at q m k (inr (inr (inl h))) e (inr z) = omega (arith, h, e, z)
child-at q m k (inr (inr (inr (inl h)))) e (inl z) = absurd (omega (arith, h, e, z))
child-at q m k (inr (inr (inr (inl h)))) e (inr z) = absurd (omega (arith, h, e, z))
child-at q m k (inr (inr (inr (inr h)))) e (inl z) = absurd (omega (arith, h, e, z))
child-at q m k (inr (inr (inr (inr h)))) e (inr z) = absurd (omega (arith, h, e, z))

pub parent-at : (q m k : ℕ) → InStep q m → m ≡ k → (k ≡ 1) ⊎ (k ≡ 3) → q ≡ k
parent-at q m k (inl h) e (inl z) = absurd (omega (arith, h, e, z))
parent-at q m k (inl h) e (inr z) = absurd (omega (arith, h, e, z))
parent-at q m k (inr (inl h)) e (inl z) = omega (arith, h, e, z)
parent-at q m k (inr (inl h)) e (inr z) = absurd (omega (arith, h, e, z))
parent-at q m k (inr (inr (inl h))) e (inl z) = absurd (omega (arith, h, e, z))
parent-at q m k (inr (inr (inl h))) e (inr z) = absurd (omega (arith, h, e, z))
parent-at q m k (inr (inr (inr (inl h)))) e (inl z) = absurd (omega (arith, h, e, z))
parent-at q m k (inr (inr (inr (inl h)))) e (inr z) = omega (arith, h, e, z)
parent-at q m k (inr (inr (inr (inr h)))) e (inl z) = absurd (omega (arith, h, e, z))
parent-at q m k (inr (inr (inr (inr h)))) e (inr z) = absurd (omega (arith, h, e, z))

-- ---- what is kept

set-same : (xs : List Kept) (n : ℕ) (k a : Kept) → slice_get xs n ≡ Some k
    → slice_get (set xs n a) n ≡ Some a
set-same [] n k a is = absurd cc
set-same (x ∷ xs) zero k a is = refl
set-same (x ∷ xs) (suc n) k a is = set-same xs n k a is

set-other : (xs : List Kept) (n x : ℕ) (a : Kept) → (x ≡ n → ⊥)
    → slice_get (set xs n a) x ≡ slice_get xs x
set-other [] n x a ne = refl
set-other (y ∷ xs) zero zero a ne = absurd (ne refl)
set-other (y ∷ xs) zero (suc x) a ne = refl
set-other (y ∷ xs) (suc n) zero a ne = refl
set-other (y ∷ xs) (suc n) (suc x) a ne = set-other xs n x a (λ e. ne (ap suc e))

pub changed-is : (kept : List Kept) (n : ℕ) (k : Kept) (f : Kept → Kept) → slice_get kept n ≡ Some k
    → kept_with_change kept n f ≡ set kept n (f k)
changed-is kept n k f is = ap (λ (o : Option Kept). elim o [ None ↦ kept | Some j ↦ set kept n (f j) ]) is

pub changed-same : (kept : List Kept) (n : ℕ) (k : Kept) (f : Kept → Kept)
    → slice_get kept n ≡ Some k → slice_get (kept_with_change kept n f) n ≡ Some (f k)
changed-same kept n k f is = ap (λ l. slice_get l n) (changed-is kept n k f is) ∙ set-same kept n k (f k) is

pub changed-other : (kept : List Kept) (n x : ℕ) (k : Kept) (f : Kept → Kept)
    → slice_get kept n ≡ Some k → (x ≡ n → ⊥) → slice_get (kept_with_change kept n f) x ≡ slice_get kept x
changed-other kept n x k f is ne = ap (λ l. slice_get l x) (changed-is kept n k f is) ∙ set-other kept n x (f k) ne

pub changed-long : (kept : List Kept) (n : ℕ) (k : Kept) (f : Kept → Kept)
    → slice_get kept n ≡ Some k → length (kept_with_change kept n f) ≡ length kept
changed-long kept n k f is = ap length (changed-is kept n k f is) ∙ length-set kept n (f k)

pub found-in : {X : Type 0} (xs : List X) (n : ℕ) → n < length xs
    → (x : X) × (slice_get xs n ≡ Some x)
found-in [] n lt = absurd (omega (arith, lt))
found-in (x ∷ xs) zero lt = (x, refl)
found-in (x ∷ xs) (suc n) lt = found-in xs n (omega (arith, lt))

pub found-within : {X : Type 0} (xs : List X) (n : ℕ) (x : X) → slice_get xs n ≡ Some x
    → n < length xs
found-within [] n x is = absurd cc
found-within (y ∷ xs) zero x is = omega arith
found-within (y ∷ xs) (suc n) x is = let h = found-within xs n x is in omega (arith, h)

pub parent-is : (ps : List Processor) (n : ℕ) (p : Processor) → slice_get ps n ≡ Some p
    → parent_in ps n ≡ p.parent
parent-is ps n p is = ap (λ (o : Option Processor). elim o [ None ↦ 0 | Some q ↦ q.parent ]) is
