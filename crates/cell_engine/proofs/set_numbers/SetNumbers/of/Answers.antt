use Rattle.cell_engine.proofs.Numbered.{as_they_are}
use Rattle.cell_engine.proofs.set_numbers.SetNumbers.of.Goals as goal

pub returns : goal.returns
returns c = as_they_are c.args.numbers.items
