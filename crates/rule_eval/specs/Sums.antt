-- Private: sums of neighbours' values.
use Rattle.std.specs.Prelude.{ℕ, Option, Some, List, [], ◌∷◌, slice_get}
use Rattle.std.specs.Option.{unwrap_or}
use Rattle.quantity.specs.declared.value.Value.{Value}
use Rattle.quantity.specs.Arithmetic.{sum_of}
use Rattle.quantity.specs.Written.{for_some}
use Rattle.rule_tree.specs.Meaning.{value_at}
use Rattle.rule_forms.specs.declared.forms.PortAt.{PortAt}

-- what a neighbour gave at a port
abbrev pub port_value_at : List (List Value) → ℕ → ℕ → Value
port_value_at nbs k p = value_at (unwrap_or (slice_get nbs k) []) p

-- a value, to which those of neighbours are added one after another
abbrev pub sum_from : Value → List PortAt → List (List Value) → Option Value
sum_from v [] nbs = Some v
sum_from v (n ∷ ns) nbs =
    for_some (sum_of v (port_value_at nbs n.offset n.port)) (λ w. sum_from w ns nbs)
