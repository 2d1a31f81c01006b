use Rattle.std.proofs.Common.{arith}
use Rattle.std.proofs.lemmas.Int.{ints}
use Rattle.cell_grid.proofs.Opposites.{same_offset}
use Rattle.cell_engine.specs.Known.{no_offset}
use Rattle.cell_engine.proofs.memo.is_nothing.Goals as goal

-- to be looked at: how the test of a signed number with 0 stands in the goal
pub returns : goal.returns
returns c = λ so. same_offset c.args.offset.now no_offset (grind (arith, ints, so)) (grind (arith, ints, so)) (grind (arith, ints, so))
