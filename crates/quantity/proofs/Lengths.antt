-- How long the texts of numbers are.
use Rattle.std.proofs.Common.{◌≡◌, ℕ, ◌/◌, ◌^◌, ◌<◌, ◌≤◌, List, ◌++◌, ap, arith, lit<, length, length-append, decimal}
use Rattle.std.proofs.Math.Nat.{div-le_self, one-le-pow}
use Rattle.std.proofs.lemmas.Fmt.{length-decimal-le}

pub power_above_zero : (k : ℕ) → 0 < 10 ^ k
power_above_zero k = one-le-pow k 10 (lit< tt)

-- a part of a value's size has at most 16 digits
pub whole_part_short : (size d e : ℕ) → size ≤ 10 ^ 15 → length (decimal (size / d / e)) ≤ 16
whole_part_short size d e small =
    let small_part : size / d / e < 10 ^ 16 = omega (arith, div-le_self size d, div-le_self (size / d) e) in
    length-decimal-le 16 (size / d / e) (lit< tt) small_part (omega arith)

pub short_in_front : (text front rest : List ℕ) → text ≡ front ++ rest → length front ≤ 16 → length rest ≤ 6 → length text < 24
short_in_front text front rest e a b = omega (arith, ap length e, length-append front rest)
