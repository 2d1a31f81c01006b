-- Numbers of few digits in 32 bits.
use Rattle.std.proofs.Common.{◌≡◌, ◌<◌, ◌^◌, ℤ, FitsSigned, w32, w64, to_z, of_z, ap, ◌∙◌, arith, unsigned_abs}
use Rattle.std.proofs.lemmas.Int.{to_z-of_z, ints}

pub short_stays : (n : ℤ) → unsigned_abs n < 10 ^ 7 → to_z w32 (of_z w32 (to_z w64 (of_z w64 n))) ≡ n
short_stays n short =
    let narrow : FitsSigned w32 n = omega (arith, ints) in
    let wide : FitsSigned w64 n = omega (arith, ints) in
    ap (λ z. to_z w32 (of_z w32 z)) (to_z-of_z w64 n wide) ∙ to_z-of_z w32 n narrow
