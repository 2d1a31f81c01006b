use Rattle.std.proofs.Common.{◌∙◌, ◌*◌, arith, ap, take, drop}
use Rattle.cell_table.proofs.Kept.{row, emitted_all}
use Rattle.cell_table.proofs.table.CellTable.emitted_at.Goals as goal

pub piece-requires : goal.piece-requires
piece-requires c = omega (arith, row c.self.inside c.args.self.now c.self.view_is c.self.invariant c.args.i c.requires.cell, c.self.invariant.emitted, c.deref.ensures.len, c.self.inside.emitted.ok.0)

pub returns-clause-values : goal.returns-clause-values
returns-clause-values c = c.piece.ensures.values ∙ ap (λ xs. take c.self.inside.port_count (drop (c.args.i * c.self.inside.port_count) xs)) c.deref.ensures.value ∙ emitted_all c.self.inside c.args.self.now c.self.view_is c.self.invariant c.args.i c.requires.cell
