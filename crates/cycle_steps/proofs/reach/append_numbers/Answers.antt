use Rattle.std.proofs.Common.{List, map, refl}
use Rattle.model_leaves.specs.declared.path.Target.{Target}
use Rattle.cycle_steps.proofs.OneMore.{appends-next, appended-all}
use Rattle.cycle_steps.proofs.reach.append_numbers.Goals as goal

pub loop-target-init : goal.loop-target-init
loop-target-init c = refl

pub loop-target-preserved : goal.loop-target-preserved
loop-target-preserved c =
    appends-next (λ (ts : List Target). map (λ (t : Target). t.path) ts) (λ t ts. refl)
    c.args.targets.now c.loop-target.target-index _ _ c.loop-target.into.items c.push.new.self.items c.loop-target-test.true c.loop-target.invariant c.in-Ok.ensures.items

pub returns : goal.returns
returns c =
    appended-all (λ (ts : List Target). map (λ (t : Target). t.path) ts) refl
    c.args.targets.now c.loop-target.target-index _ c.loop-target.into.items c.loop-target-test.false c.loop-target.invariant
