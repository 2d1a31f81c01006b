use Rattle.std.proofs.Common.{arith}
use Rattle.cell_table.proofs.Kept.{width_seen}
use Rattle.cell_table.proofs.Taking.{taken_first, took_only}
use Rattle.cell_table.proofs.table.CellTable.take_out.Goals as goal

pub take_port-requires-clause-port : goal.take_port-requires-clause-port
take_port-requires-clause-port c = omega (arith, c.self.invariant.some, width_seen c.self.inside c.args.self.now c.self.view_is)

pub returns-clause-ok : goal.returns-clause-ok
returns-clause-ok c =
    taken_first c.take_port.result c.args.kind c.args.at c.args.value c.args.i c.args.self.now c.take_port.new.self c.take_port.ensures.ok

pub returns-clause-only : goal.returns-clause-only
returns-clause-only c = (took_only c.args.kind c.args.at c.args.value c.args.i 0 c.args.self.now c.take_port.new.self c.take_port.result c.requires.cell c.take_port.ensures.ok c.take_port.ensures.err).0

pub returns-clause-shape : goal.returns-clause-shape
returns-clause-shape c = (took_only c.args.kind c.args.at c.args.value c.args.i 0 c.args.self.now c.take_port.new.self c.take_port.result c.requires.cell c.take_port.ensures.ok c.take_port.ensures.err).1
