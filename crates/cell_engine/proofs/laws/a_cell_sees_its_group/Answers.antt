use Rattle.cell_engine.proofs.Sees.{sees-its-group}
use Rattle.cell_engine.proofs.laws.a_cell_sees_its_group.Goals as goal

pub returns : goal.returns
returns c = sees-its-group
