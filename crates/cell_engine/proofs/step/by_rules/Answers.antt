use Rattle.cell_engine.proofs.step.by_rules.Goals as goal

pub returns-clause-cell : goal.returns-clause-cell
returns-clause-cell c = c.by_rules_knowing.ensures.cell
