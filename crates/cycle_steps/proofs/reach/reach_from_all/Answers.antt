use Rattle.std.proofs.Common.{◌∙◌, ap, ◌||◌}
use Rattle.std.specs.List.{list_any}
use Rattle.std.proofs.lemmas.Result.{on_ok_weaker}
use Rattle.cycle_steps.specs.Leading.{leads_from_top}
use Rattle.cycle_steps.proofs.reach.reach_from_all.Goals as goal

pub returns : goal.returns
returns g c =
    let ps = g.R.Routing.paths c.args.routes.now in
    on_ok_weaker c.reach_from_tops.result (λ more k. more k ∙ ap (λ b. b || list_any (leads_from_top ps k) c.args.inputs.now) (c.in_ok-reach_from_leaves.ensures k)) c.reach_from_tops.ensures
