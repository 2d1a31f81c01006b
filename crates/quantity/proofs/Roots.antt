-- The root that is found by binary digits is the greatest.
use Rattle.std.proofs.Common.{◌≡◌, ℕ, zero, suc, ◌+◌, ◌*◌, ◌^◌, ◌<◌, ◌≤◌, Bool, true, false, cond, nat_le, refl, ap, ◌∙◌, arith, subst}
use Rattle.std.proofs.Math.Nat.{pow-suc, mul-le-mul}
use Rattle.std.proofs.lemmas.Bool.Decides.{nat_tests}
use Rattle.std.proofs.lemmas.Int.{ints}
use Rattle.std.specs.Prelude.{ℤ, pos, negsuc, unsigned_abs, ◌≤ℤ◌}
use Rattle.quantity.specs.declared.value.Value.TheVariants.{Num}
use Rattle.quantity.specs.Arithmetic.{root_digits, raw_root}

-- r squares at most to n, and the next number squares past it
pub record IsCutRoot (n r : ℕ) : Type 0 where
  pub within : r * r ≤ n
  pub next : n < (r + 1) * (r + 1)

halves : (r k p q : ℕ) → p ≡ 2 ^ k → q ≡ 2 ^ suc k → r + q ≡ r + p + p
halves r k p q e f = let g = pow-suc 2 k in omega arith

-- one more digit, which is set where the square of what it gives fits
with_digit : (k n r : ℕ) → ((s : ℕ) → s * s ≤ n → n < (s + 2 ^ k) * (s + 2 ^ k) → IsCutRoot n (root_digits k n s)) → r * r ≤ n → n < (r + 2 ^ suc k) * (r + 2 ^ suc k) → (b : Bool) → nat_le ((r + 2 ^ k) * (r + 2 ^ k)) n ≡ b → IsCutRoot n (root_digits k n (cond b (r + 2 ^ k) r))
with_digit k n r others h g true e = others (r + 2 ^ k) (grind (arith, nat_tests)) (subst (λ m. n < m * m) (halves r k (2 ^ k) (2 ^ suc k) refl refl) g)
with_digit k n r others h g false e = others r h (grind (arith, nat_tests))

root_digits-cut : (k n r : ℕ) → r * r ≤ n → n < (r + 2 ^ k) * (r + 2 ^ k) → IsCutRoot n (root_digits k n r)
root_digits-cut zero n r h g = record { within = h; next = g }
root_digits-cut (suc k) n r h g = with_digit k n r (root_digits-cut k n) h g (nat_le ((r + 2 ^ k) * (r + 2 ^ k)) n) refl

pub cut_is_greatest : (n r s : ℕ) → n < (r + 1) * (r + 1) → s * s ≤ n → s ≤ r
cut_is_greatest n r s g h = by (nat_le s r) refl
  where
    by : (b : Bool) → nat_le s r ≡ b → s ≤ r
    by true e = grind (arith, nat_tests)
    by false e = let past : r + 1 ≤ s = grind (arith, nat_tests) in absurd (omega (arith, mul-le-mul past past))

pub one_cut_root : (n r s : ℕ) → IsCutRoot n r → IsCutRoot n s → r ≡ s
one_cut_root n r s a b = let low = cut_is_greatest n s r b.next a.within in let high = cut_is_greatest n r s a.next b.within in omega arith

pub root_digits-is : (k n r : ℕ) → n < 2 ^ k * 2 ^ k → r * r ≤ n → n < (r + 1) * (r + 1) → r ≡ root_digits k n 0
root_digits-is k n r small h g = one_cut_root n r (root_digits k n 0) (record { within = h; next = g }) (root_digits-cut k n 0 (omega arith) (omega arith))

pub at_most : (n r : ℕ) → n ≤ 10 ^ 15 → r * r ≤ n * 100000 → r ≤ 10 ^ 15
at_most n r small h = cut_is_greatest (n * 100000) (10 ^ 15) r (omega arith) h

-- the root of a number that isn't below zero
pub raw_root-at : (x w : ℤ) (n r : ℕ) → pos 0 ≤ℤ x → n ≡ unsigned_abs x → r ≡ root_digits 34 (n * 100000) 0 → w ≡ pos r → Num w ≡ raw_root x
raw_root-at (pos m) w n r le e f g = ap (λ z. Num z) (g ∙ ap pos f) ∙ ap (λ k. Num (pos (root_digits 34 (k * 100000) 0))) e
raw_root-at (negsuc m) w n r le e f g = absurd (omega (arith, ints))
