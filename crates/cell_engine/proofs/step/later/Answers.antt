use Rattle.cell_engine.proofs.step.later.Goals as goal

pub returns : goal.returns
returns c = c.after.ensures
