use Rattle.std.proofs.Common.{rules}
use Rattle.model_tree.specs.Stands.{group_of}
use Rattle.cell_engine.proofs.Planned.{is_plan, near_is}
use Rattle.cell_engine.proofs.make.plan_of.Goals as goal

pub invariant_of-result : goal.invariant_of-result
invariant_of-result c = is_plan (group_of c.args.group.now) _ c.in_ok-reach.reach c.requires (search rules) (near_is c.in_ok-reach.reach _ _ c.in_ok-reach.ensures)
