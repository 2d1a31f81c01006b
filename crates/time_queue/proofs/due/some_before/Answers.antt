use Rattle.std.proofs.Common.{◌≤◌, arith}
use Rattle.std.proofs.lemmas.Grind.{common_steps}
use Rattle.time_queue.proofs.Least.{none_before, none_waits}
use Rattle.time_queue.proofs.due.some_before.Goals as goal

pub returns-in-Some : goal.returns-in-Some
returns-in-Some g c = λ is.
    let le : c.args.at ≤ c.in-Some.first.at = grind (arith, common_steps) in
    none_before c.args.at c.in-Some.first.at (g.Q.DueFirst.waiting c.args.queue.now) c.in-Some.ensures.least le

pub returns-in-None : goal.returns-in-None
returns-in-None g c = λ _ leaf t waits. absurd (none_waits (g.Q.DueFirst.waiting c.args.queue.now) c.in-None.ensures.none leaf t waits)
