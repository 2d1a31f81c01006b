use Rattle.cell_engine.proofs.Knowing.{memo_starts}
use Rattle.cell_engine.proofs.memo.memo_by.Goals as goal

pub returns : goal.returns
returns c =
    memo_starts c.args.plan.now c.args.own c.kept_for-count.result c.in_ok-known.known.items c.free-nothing.result c.in_ok-known.ensures c.free-nothing.ensures c.kept_for-count.ensures
