use Rattle.sparse_cycle.proofs.Costs.{costs-its-parts}
use Rattle.sparse_cycle.proofs.laws.a_stopping_cycle_costs_its_parts.Goals as goal

pub returns : goal.returns
returns c = costs-its-parts
