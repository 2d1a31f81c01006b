-- What expressions mean as numbers.
use Rattle.std.specs.Prelude.{Option, Some}
use Rattle.std.specs.Option.{option_map}
use Rattle.quantity.specs.declared.value.Value.{Value}
use Rattle.quantity.specs.declared.value.Value.TheVariants.{Undefined}
use Rattle.quantity.specs.Arithmetic.{sum_of, difference_of, product_of, quotient_of}
use Rattle.rule_tree.specs.declared.node.Binary.{Binary}
use Rattle.rule_tree.specs.declared.node.Binary.TheVariants.{Imp, Eqv, Or, Xor, And, Cmp, Add, Sub, Mul, Div}
use Rattle.rule_tree.specs.Expression.{Expr}
use Rattle.rule_tree.specs.Meaning.{Sight, number_answered, meaning}

-- the number that an expression answers, `?` where it answers a truth value
abbrev pub number_meant : Expr → Sight → Option Value
number_meant e s = option_map number_answered (meaning e s)

-- the number that an operator between two numbers answers
abbrev pub number_of_two : Binary → Value → Value → Option Value
number_of_two Imp a b = Some Undefined
number_of_two Eqv a b = Some Undefined
number_of_two Or a b = Some Undefined
number_of_two Xor a b = Some Undefined
number_of_two And a b = Some Undefined
number_of_two (Cmp how) a b = Some Undefined
number_of_two Add a b = sum_of a b
number_of_two Sub a b = difference_of a b
number_of_two Mul a b = product_of a b
number_of_two Div a b = quotient_of a b
