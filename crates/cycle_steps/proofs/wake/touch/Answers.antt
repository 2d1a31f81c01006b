use Rattle.cycle_steps.specs.Untimed.{x_records}
use Rattle.cycle_steps.proofs.Marked.{reached-marked}
use Rattle.cycle_steps.proofs.wake.touch.Goals as goal

pub returns-clause-taken : goal.returns-clause-taken
returns-clause-taken g c =
    reached-marked _ _ _ c.args.due.now (x_records c.args.fed.now) c.take_all.new.into.items c.mark_all.ensures.marked c.mark_fed.ensures.marked c.mark_all.ensures.long c.mark_fed.ensures.long c.take_all.ensures.taken
