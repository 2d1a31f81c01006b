use Rattle.std.proofs.Common.{◌∙◌, ap, sym, arith}
use Rattle.run_model.specs.CellStep.{PortState, first_time}
use Rattle.cell_table.proofs.Kept.{row, few, port_seen, port_none}
use Rattle.cell_table.proofs.table.CellTable.next.Goals as goal

pub overflow_mul-port : goal.overflow_mul-port
overflow_mul-port c = omega (arith, few c.self.inside c.args.self.now c.self.view_is c.self.invariant c.args.i c.requires.cell)

pub overflow_add-port : goal.overflow_add-port
overflow_add-port c = omega (arith, few c.self.inside c.args.self.now c.self.view_is c.self.invariant c.args.i c.requires.cell)

pub next_in-requires : goal.next_in-requires
next_in-requires c = omega (arith, row c.self.inside c.args.self.now c.self.view_is c.self.invariant c.args.i c.requires.cell, c.self.invariant.lists)

pub returns-then-p-self : goal.returns-then-p-self
returns-then-p-self c = c.next_in.ensures ∙ sym (ap (λ (q : PortState). first_time q.pairs) (port_seen c.self.inside c.args.self.now c.self.view_is c.self.invariant c.args.i c.requires.cell c.args.p c.if-p-self.true))

pub returns-else-p-self : goal.returns-else-p-self
returns-else-p-self c = sym (ap (λ (q : PortState). first_time q.pairs) (port_none c.self.inside c.args.self.now c.self.view_is c.self.invariant c.args.i c.requires.cell c.args.p c.if-p-self.false))
