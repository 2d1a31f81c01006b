use Rattle.std.proofs.Common.{◌≡◌, ℕ, ◌||◌, drop}
use Rattle.std.specs.List.{list_any}
use Rattle.quantity.specs.Bytes.{has_number}
use Rattle.cycle_steps.specs.Leading.{leads_from_top}
use Rattle.cycle_steps.proofs.reach.reach_from_tops.Given as goal

abbrev pub invariant-loop-e : goal.invariant-loop-e
invariant-loop-e g l = (k : ℕ) → (has_number l.fn.into.items k || list_any (leads_from_top (g.R.Routing.paths l.routes) k) l.inputs) ≡ (has_number l.into.items k || list_any (leads_from_top (g.R.Routing.paths l.routes) k) (drop l.e-index l.inputs))
