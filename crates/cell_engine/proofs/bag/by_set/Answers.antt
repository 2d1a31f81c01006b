use Rattle.std.proofs.Common.{Some, arith}
use Rattle.cell_engine.proofs.Shown.{tally_seen}
use Rattle.cell_engine.proofs.bag.by_set.Goals as goal

pub returns-then-count-eq0-clause-cell : goal.returns-then-count-eq0-clause-cell
returns-then-count-eq0-clause-cell c = c.by_own.ensures.cell

pub by_few-requires-clause-some : goal.by_few-requires-clause-some
by_few-requires-clause-some c = omega (arith, c.if-count-eq0.false, c.len-count.ensures, c.args.memo.now.known.ok.0)

pub by_few-requires-clause-tally : goal.by_few-requires-clause-tally
by_few-requires-clause-tally c =
    tally_seen c.args.plan.now c.args.t c.args.table.now c.args.i c.args.tallies.now (Some c.in-Some.tally) c.in-Some.ensures.within c.in-Some.ensures.value c.requires.tallies

pub returns-in-Some-clause-cell : goal.returns-in-Some-clause-cell
returns-in-Some-clause-cell c = c.by_few.ensures.cell

pub returns-in-None-clause-cell : goal.returns-in-None-clause-cell
returns-in-None-clause-cell c = c.by_own-in-None.ensures.cell
