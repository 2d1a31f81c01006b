-- Values that are whole numbers.
use Rattle.std.proofs.Common.{◌≡◌, ℕ, Option, Some, None, pos, negsuc, refl, ap, arith}
use Rattle.std.specs.Prelude.{◌==◌, ◌%◌, ◌/◌, ◌&&◌, nat_le, Bool, true, false, if◌then◌else◌}
use Rattle.std.proofs.lemmas.Bool.Decides.{nat_tests}
use Rattle.quantity.specs.declared.value.Value.{Value}
use Rattle.quantity.specs.declared.value.Value.TheVariants.{Undefined, Num}
use Rattle.rule_tree.specs.Meaning.{whole}
use Rattle.rule_tree.specs.Chosen.{delay_of}
use Rattle.rule_forms.specs.WholeNumbers.{whole_number_in}

-- a whole number that a value is makes the value
pub whole_again : (v : Value) (n : ℕ) → whole_number_in v ≡ Some n → v ≡ whole n
whole_again Undefined n h = cc
whole_again (Num (negsuc k)) n h = cc
whole_again (Num (pos k)) n h = at (k % 100000 == 0) refl h
  where
    at : (b : Bool) → b ≡ (k % 100000 == 0)
        → (if b then Some (k / 100000) else None) ≡ Some n → Num (pos k) ≡ whole n
    at false is e = cc
    at true is e =
        let found : k / 100000 ≡ n = cc in
        let rest : k % 100000 ≡ 0 = grind (arith, nat_tests) in
        ap (λ (m : ℕ). Num (pos m)) (omega arith)

-- a number of milliseconds that is not too large
abbrev pub delay_from : Option ℕ → Option ℕ
delay_from None = None
delay_from (Some ms) = if nat_le ms 359999999 then Some ms else None

-- a delay is a whole number that is not too large
pub delay_is : (v : Value) → delay_of v ≡ delay_from (whole_number_in v)
delay_is Undefined = refl
delay_is (Num (pos n)) = at (n % 100000 == 0)
  where
    at : (b : Bool) → (if b && nat_le (n / 100000) 359999999 then Some (n / 100000) else None) ≡ delay_from (if b then Some (n / 100000) else None)
    at true = refl
    at false = refl
delay_is (Num (negsuc n)) = refl
