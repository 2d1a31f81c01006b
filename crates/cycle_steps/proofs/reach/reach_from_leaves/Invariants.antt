use Rattle.std.proofs.Common.{◌≡◌, ℕ, ◌||◌, drop}
use Rattle.std.specs.List.{list_any}
use Rattle.quantity.specs.Bytes.{has_number}
use Rattle.cycle_steps.specs.Untimed.{y_records}
use Rattle.cycle_steps.specs.Leading.{leads_from_leaf}
use Rattle.cycle_steps.proofs.reach.reach_from_leaves.Given as goal

abbrev pub invariant-loop-r : goal.invariant-loop-r
invariant-loop-r g l = (k : ℕ) → (has_number l.fn.into.items k || list_any (leads_from_leaf (g.R.Routing.paths l.routes) k) (y_records l.y)) ≡ (has_number l.into.items k || list_any (leads_from_leaf (g.R.Routing.paths l.routes) k) (y_records (drop l.r-index l.y)))
