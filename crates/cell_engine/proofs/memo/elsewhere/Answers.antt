use Rattle.cell_engine.proofs.memo.elsewhere.Goals as goal

pub returns-clause-cell : goal.returns-clause-cell
returns-clause-cell c = c.anew.ensures.cell
