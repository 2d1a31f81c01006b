-- What rules give, port by port.
use Rattle.std.specs.Prelude.{◌≡◌, ℕ, List}
use Rattle.std.specs.declared.result.Result.{Result}
use Rattle.std.specs.declared.result.Result.TheVariants.{Ok, Err}
use Rattle.quantity.specs.declared.value.Value.{Value}
use Rattle.rule_tree.specs.declared.outcome.RuleStop.{RuleStop}
use Rattle.rule_tree.specs.Chosen as rules
use Rattle.rule_tree.specs.Chosen.{Chosen}
use Rattle.rule_tree.specs.Ports.{by_port}
use Rattle.rule_forms.specs.declared.given.Given.{Given}

-- what evaluation answers and leaves, and what the rules give over what the cell sees
pub record IsGiven (g : rules.Given) (given : Given) (ms : ℕ) (after : List Value) : Type 0 where
  pub values : given.values ≡ by_port g.values
  pub delay : ms ≡ g.delay
  pub variables : after ≡ g.variables

-- evaluation gives what the chosen rule gives
abbrev pub Evaluates : Chosen → Result (Given × ℕ) RuleStop → List Value → Type 0
Evaluates (Ok g) (Ok r) variables = IsGiven g r.0 r.1 variables
Evaluates (Ok g) (Err stop) variables = ⊥
Evaluates (Err why) (Ok r) variables = ⊥
Evaluates (Err why) (Err stop) variables = stop ≡ why
