-- Products and quotients of values in 128 bits, which hold them.
use Rattle.std.proofs.Common.{◌≡◌, ℕ, zero, suc, ◌^◌, ◌/◌, ◌≤◌, ◌∙◌, ap, arith, lit<, refl, subst, sym}
use Rattle.std.proofs.Math.Nat.{div-le_self}
use Rattle.std.proofs.lemmas.Int.{fits_signed_from_abs, fits_signed_mul, quot_fits, quot_is, to_z-of_z, unsigned_abs-mul}
use Rattle.std.specs.Prelude.{ℤ, pos, negsuc, ◌*ℤ◌, neg_ℤ, int_div, unsigned_abs}
use mir.Syntax.{w64, w128}
use mir.Val.{SFits, of_z, to_z}

-- a value's number, taken to 128 bits
pub widened : (a x : ℤ) → unsigned_abs a ≤ 10 ^ 15 → x ≡ to_z w64 (of_z w64 a) → to_z w128 (of_z w128 x) ≡ a
widened a x small is =
    ap (λ z. to_z w128 (of_z w128 z)) (is ∙ to_z-of_z w64 a (fits_signed_from_abs w64 a (omega arith)))
    ∙ to_z-of_z w128 a (fits_signed_from_abs w128 a (omega arith))

pub product_fits : (a b p q : ℤ) → unsigned_abs a ≤ 10 ^ 15 → unsigned_abs b ≤ 10 ^ 15 → p ≡ a → q ≡ b → SFits w128 (p *ℤ q)
product_fits a b p q left right p_is q_is =
    subst (λ z. SFits w128 (z *ℤ q)) (sym p_is) (subst (λ z. SFits w128 (a *ℤ z)) (sym q_is) (fits_signed_mul w128 a b (10 ^ 15) (10 ^ 15) left right (lit< tt)))

-- a product, cut after five decimals
pub product_cut : (a b p q : ℤ) → unsigned_abs a ≤ 10 ^ 15 → unsigned_abs b ≤ 10 ^ 15 → p ≡ a → q ≡ b
    → to_z w128 (of_z w128 (int_div (to_z w128 (of_z w128 (p *ℤ q))) (pos 100000))) ≡ int_div (a *ℤ b) (pos 100000)
product_cut a b p q left right p_is q_is =
    let fits = fits_signed_mul w128 a b (10 ^ 15) (10 ^ 15) left right (lit< tt) in
    ap (λ z. to_z w128 (of_z w128 (int_div (to_z w128 (of_z w128 z)) (pos 100000)))) (ap (λ z. z *ℤ q) p_is ∙ ap (λ z. a *ℤ z) q_is)
    ∙ quot_is w128 (a *ℤ b) (pos 100000) fits (fits_signed_from_abs w128 (pos 100000) (lit< tt)) (quot_fits w128 (a *ℤ b) (pos 100000) fits (record { lt = tt }))

same_size : (n : ℕ) → unsigned_abs (neg_ℤ (pos n)) ≡ n
same_size zero = refl
same_size (suc n) = refl

-- a quotient is no greater than what is divided
no_greater : (a d : ℤ) → unsigned_abs (int_div a d) ≤ unsigned_abs a
no_greater (pos a) (pos b) = div-le_self a b
no_greater (pos a) (negsuc b) = omega (arith, same_size (a / suc b), div-le_self a (suc b))
no_greater (negsuc a) (pos b) = omega (arith, same_size (suc a / b), div-le_self (suc a) b)
no_greater (negsuc a) (negsuc b) = div-le_self (suc a) (suc b)

-- a quotient, cut after five decimals
pub quotient_cut : (a b p q : ℤ) → unsigned_abs a ≤ 10 ^ 15 → SFits w64 b → p ≡ a → q ≡ to_z w64 (of_z w64 b)
    → to_z w128 (of_z w128 (int_div (to_z w128 (of_z w128 (p *ℤ pos 100000))) (to_z w128 (of_z w128 q)))) ≡ int_div (a *ℤ pos 100000) b
quotient_cut a b p q small fits p_is q_is =
    let whole = a *ℤ pos 100000 in
    let size = unsigned_abs-mul a (pos 100000) in
    let divisor : SFits w128 b = record { sfits = omega (arith, fits.sfits) } in
    ap (λ z. to_z w128 (of_z w128 (int_div (to_z w128 (of_z w128 (z *ℤ pos 100000))) (to_z w128 (of_z w128 q))))) p_is
    ∙ ap (λ z. to_z w128 (of_z w128 (int_div (to_z w128 (of_z w128 whole)) (to_z w128 (of_z w128 z))))) (q_is ∙ to_z-of_z w64 b fits)
    ∙ quot_is w128 whole b (fits_signed_from_abs w128 whole (omega (arith, size, small))) divisor (fits_signed_from_abs w128 (int_div whole b) (omega (arith, no_greater whole b, size, small)))
