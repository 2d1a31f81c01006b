use Rattle.cell_engine.proofs.memo.anew.Goals as goal

pub returns-clause-cell : goal.returns-clause-cell
returns-clause-cell c = c.by_own.ensures.cell
