use Rattle.std.proofs.Common.{◌+◌, ap, set}
use Rattle.quantity.specs.declared.value.Value.TheVariants.{Undefined}
use Rattle.cell_table.specs.declared.state.PortState.{PortState}
use Rattle.cell_table.proofs.Pieced.{piece_none, piece_more}
use Rattle.cell_table.proofs.save.write_computed.Goals as goal

pub loop-p-init : goal.loop-p-init
loop-p-init c = piece_none c.args.first c.args.values.now

pub loop-p-preserved : goal.loop-p-preserved
loop-p-preserved c =
    piece_more (λ (q : PortState). q.computed) Undefined c.args.ports.now c.args.first c.loop-p.p c.index-ports-p.result c.args.values.now c.loop-p.values _ c.requires c.loop-p-test.true c.index-ports-p.is c.loop-p.invariant (ap (set c.loop-p.values (c.args.first + c.loop-p.p)) c.of.ensures)
