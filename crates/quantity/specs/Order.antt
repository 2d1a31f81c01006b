-- How comparisons agree with each other, and what too large is.
use Rattle.std.specs.Prelude.{◌≡◌, ◌<◌, ◌↔◌, None, Some, ℤ, unsigned_abs}
use Rattle.quantity.specs.declared.bounds.TheConstants.{MAX_RAW}
use Rattle.quantity.specs.declared.truth.Tri.TheVariants.{True, Undef}
use Rattle.quantity.specs.declared.value.Compare.{Compare}
use Rattle.quantity.specs.declared.value.Compare.TheVariants.{Equal, Unequal, Less, LessEqual, Greater, GreaterEqual}
use Rattle.quantity.specs.declared.value.Value.{Value}
use Rattle.quantity.specs.declared.value.Value.TheVariants.{Undefined}
use Rattle.quantity.specs.Roots.{IsBounded}
use Rattle.quantity.specs.Arithmetic.{value_in_bounds, sum_of, least_of, greatest_of, whole_part, fraction_of, comparison}
use Rattle.quantity.specs.Truth.{negation, disjunction}

-- comparisons follow from less and equal, and order values as their lesser and greater do
pub record ComparisonsAgree : Type 0 where
  pub undefined_first : (how : Compare) (b : Value) → comparison how Undefined b ≡ Undef
  pub undefined_second : (how : Compare) (a : Value) → comparison how a Undefined ≡ Undef
  pub unequal : (a b : Value) → comparison Unequal a b ≡ negation (comparison Equal a b)
  pub greater : (a b : Value) → comparison Greater a b ≡ comparison Less b a
  pub less_equal : (a b : Value) → comparison LessEqual a b ≡ negation (comparison Greater a b)
  pub greater_equal : (a b : Value) → comparison GreaterEqual a b ≡ negation (comparison Less a b)
  pub less_or_equal : (a b : Value) → comparison LessEqual a b
      ≡ disjunction (comparison Less a b) (comparison Equal a b)
  pub chain : (a b c : Value) → comparison Less a b ≡ True → comparison Less b c ≡ True
      → comparison Less a c ≡ True
  pub same : (a b : Value) → comparison Equal a b ≡ True → a ≡ b
  pub min : (a b : Value) → comparison LessEqual a b ≡ True → least_of a b ≡ a
  pub max : (a b : Value) → comparison LessEqual a b ≡ True → greatest_of a b ≡ b

-- a raw number makes no value just where it is too large
abbrev pub OverflowsPastTheBound : Type 0
OverflowsPastTheBound = (raw : ℤ) → (value_in_bounds raw ≡ None) ↔ (MAX_RAW < unsigned_abs raw)

-- the whole part of a number and what is left make the number
abbrev pub PartsMakeTheNumber : Type 0
PartsMakeTheNumber = (a : Value) → IsBounded a → sum_of (whole_part a) (fraction_of a) ≡ Some a
