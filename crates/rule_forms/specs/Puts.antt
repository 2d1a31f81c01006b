-- Private: what a rule gives, put at its ports one value after another.
use Rattle.std.specs.Prelude.{◌≡◌, ℕ, Option, Some, None, List, [], ◌∷◌, set}
use Rattle.std.specs.declared.result.Result.{Result}
use Rattle.std.specs.declared.result.Result.TheVariants.{Ok}
use Rattle.quantity.specs.declared.value.Value.{Value}
use Rattle.rule_tree.specs.declared.outcome.RuleStop.{RuleStop}
use Rattle.rule_tree.specs.Expression.{Expr}
use Rattle.rule_tree.specs.Meaning.{Sight}
use Rattle.quantity.specs.Written.{for_ok}
use Rattle.rule_tree.specs.Chosen.{variables_after}
use Rattle.rule_forms.specs.declared.known.Constant.{Constant}
use Rattle.rule_forms.specs.Stops.{number_by}
use Rattle.rule_forms.specs.Known.{AlwaysWaits}

-- no port gives a value
abbrev pub no_values : List (Option Value)
no_values = None ∷ None ∷ None ∷ None ∷ []

-- the values given, each put at its port
abbrev pub put_by : List (ℕ × Expr) → Sight → List (Option Value)
    → Result (List (Option Value)) RuleStop
put_by [] s values = Ok values
put_by (g ∷ gs) s values =
    for_ok (number_by g.1 s) (λ v. put_by gs s (set values g.0 (Some v)))

-- these gives, this delay and these sets come to this whatever a cell sees, and nothing is set
pub record AlwaysPuts (gives : List (ℕ × Expr)) (delay : Expr) (sets : List (ℕ × Expr))
    (c : Constant) : Type 0 where
  pub values : (s : Sight) → put_by gives s no_values ≡ Ok c.given.values
  pub waits : AlwaysWaits delay c.delay
  pub variables : (s : Sight) → variables_after sets s ≡ Ok s.variables
