use Rattle.std.proofs.Common.{Some}
use Rattle.cell_engine.proofs.Shown.{tally_seen}
use Rattle.cell_engine.proofs.memo.learn.Goals as goal

pub learn_at-requires-clause-tally : goal.learn_at-requires-clause-tally
learn_at-requires-clause-tally c =
    tally_seen c.args.plan.now c.args.t c.args.table.now c.args.i c.args.tallies.now (Some c.in-Some.tally) c.in-Some.ensures.within c.in-Some.ensures.value c.requires.tallies
