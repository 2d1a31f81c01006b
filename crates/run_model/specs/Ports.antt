-- What a cell takes at its ports: in written order, or port by port.
use Rattle.std.specs.Prelude.{◌≡◌, ℕ, ◌≤◌, Bool, true, Option, Some, None, List, [], ◌∷◌, map, length}
use Rattle.std.specs.List.{range_with_len}
use Rattle.quantity.specs.declared.value.Value.{Value}
use Rattle.rule_tree.specs.Scope.{differ}
use Rattle.rule_tree.specs.Ports.{given_at, by_port}
use Rattle.quantity.specs.declared.delay.DelayKind.{DelayKind}
use Rattle.run_model.specs.CellStep.{PortState, port_took, took}

-- ---- what ports take

-- a port takes a value, where there is one
abbrev pub port_took_some : DelayKind → ℕ → Option Value → PortState → PortState
port_took_some kind at None p = p
port_took_some kind at (Some v) p = port_took kind at v p

-- each port takes the value of its place
abbrev pub each_took : DelayKind → ℕ → List (Option Value) → List PortState → List PortState
each_took kind at (o ∷ os) (p ∷ ps) = port_took_some kind at o p ∷ each_took kind at os ps
each_took kind at os ps = ps

-- no port is given twice
abbrev pub ports_differ : List (ℕ × Value) → Bool
ports_differ gs = differ (map (λ (g : ℕ × Value). g.0) gs)

-- where values are given at different ports, taking them in written order is taking them port by
-- port
pub record TakesByPort : Type 0 where
  pub any_ports : (kind : DelayKind) (at : ℕ) (gs : List (ℕ × Value)) (ps : List PortState)
      → ports_differ gs ≡ true
      → took kind at gs ps ≡ each_took kind at (map (given_at gs) (range_with_len 0 (length ps))) ps
  pub four_ports : (kind : DelayKind) (at : ℕ) (gs : List (ℕ × Value)) (ps : List PortState)
      → ports_differ gs ≡ true → length ps ≤ 4
      → took kind at gs ps ≡ each_took kind at (by_port gs) ps
