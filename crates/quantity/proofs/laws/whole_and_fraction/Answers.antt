use Rattle.std.proofs.Common.{◌≡◌, Some, refl, ap, ◌∙◌}
use Rattle.std.proofs.lemmas.Int.{quot-rem}
use Rattle.quantity.specs.declared.value.Value.{Value}
use Rattle.quantity.specs.declared.value.Value.TheVariants.{Undefined, Num}
use Rattle.quantity.specs.Roots.{IsBounded}
use Rattle.quantity.specs.Arithmetic.{value_in_bounds, fraction_of, one, sum_of, whole_part}
use Rattle.quantity.proofs.Written.{fits}
use Rattle.quantity.proofs.laws.whole_and_fraction.Goals as goal

parts : (a : Value) → IsBounded a → sum_of (whole_part a) (fraction_of a) ≡ Some a
parts Undefined h = refl
parts (Num x) h = ap value_in_bounds (quot-rem x one) ∙ fits x h

pub returns : goal.returns
returns c = parts
