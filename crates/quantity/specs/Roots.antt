-- The bound of a value's number, and what a root is.
use Rattle.std.specs.Prelude.{◌≡◌, ◌≤◌, ℕ, ◌*◌, Option, Some, None, ℤ, pos, negsuc, unsigned_abs}
use Rattle.quantity.specs.declared.bounds.TheConstants.{MAX_RAW}
use Rattle.quantity.specs.declared.value.Value.{Value}
use Rattle.quantity.specs.declared.value.Value.TheVariants.{Undefined, Num}

-- every value of the program: a number that isn't too large
abbrev pub IsBounded : Value → Type 0
IsBounded Undefined = Unit {0}
IsBounded (Num x) = unsigned_abs x ≤ MAX_RAW

-- the raw number, where it is known
abbrev pub number_of : Value → Option ℤ
number_of Undefined = None
number_of (Num x) = Some x

-- r is the greatest number whose square is at most n
pub record IsGreatestRoot (n r : ℕ) : Type 0 where
  pub within : r * r ≤ n
  pub greatest : (s : ℕ) → s * s ≤ n → s ≤ r

-- the root of a number that isn't below zero, as a raw number: the greatest whose square is at most
-- 100000 times the number's
abbrev pub IsRootOf : Value → Value → Type 0
IsRootOf (Num (pos n)) (Num (pos r)) = IsGreatestRoot (n * 100000) r
IsRootOf (Num (pos n)) (Num (negsuc r)) = ⊥
IsRootOf (Num (pos n)) Undefined = ⊥
IsRootOf (Num (negsuc n)) v = v ≡ Undefined
IsRootOf Undefined v = v ≡ Undefined
