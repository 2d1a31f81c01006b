-- What an expression gives to a rule, or why the rule stops.
use Rattle.std.specs.Prelude.{ℕ, Option, Some, None}
use Rattle.std.specs.declared.result.Result.{Result}
use Rattle.std.specs.declared.result.Result.TheVariants.{Ok, Err}
use Rattle.quantity.specs.declared.truth.Tri.{Tri}
use Rattle.quantity.specs.declared.value.Value.{Value}
use Rattle.rule_tree.specs.declared.outcome.Answer.{Answer}
use Rattle.rule_tree.specs.declared.outcome.RuleStop.{RuleStop}
use Rattle.rule_tree.specs.declared.outcome.RuleStop.TheVariants.{Overflow, BadDelay}
use Rattle.rule_tree.specs.Expression.{Expr}
use Rattle.rule_tree.specs.Meaning.{Sight, number_answered, truth_in, meaning}
use Rattle.quantity.specs.Written.{for_ok}
use Rattle.rule_tree.specs.Chosen.{delay_of}

-- an answer, or an overflow
abbrev pub or_stop : Option Answer → Result Answer RuleStop
or_stop None = Err Overflow
or_stop (Some a) = Ok a

-- the number of an answer, or an overflow
abbrev pub number_or_stop : Option Answer → Result Value RuleStop
number_or_stop None = Err Overflow
number_or_stop (Some a) = Ok (number_answered a)

-- the truth value of an answer, or an overflow
abbrev pub truth_or_stop : Option Answer → Result Tri RuleStop
truth_or_stop None = Err Overflow
truth_or_stop (Some a) = Ok (truth_in a)

-- the number that an expression means over what a cell sees
abbrev pub number_by : Expr → Sight → Result Value RuleStop
number_by e s = number_or_stop (meaning e s)

-- the truth value that it means
abbrev pub truth_by : Expr → Sight → Result Tri RuleStop
truth_by e s = truth_or_stop (meaning e s)

-- a delay that is a time; else BadDelay
abbrev pub delay_or_stop : Value → Option ℕ → Result ℕ RuleStop
delay_or_stop v None = Err (BadDelay v)
delay_or_stop v (Some ms) = Ok ms

-- the delay that a value is
abbrev pub delay_in : Value → Result ℕ RuleStop
delay_in v = delay_or_stop v (delay_of v)

-- the delay that an expression means over what a cell sees
abbrev pub delay_by : Expr → Sight → Result ℕ RuleStop
delay_by e s = for_ok (number_by e s) delay_in
