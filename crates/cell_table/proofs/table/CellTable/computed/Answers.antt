use Rattle.std.proofs.Common.{◌∙◌, ◌+◌, ◌*◌, get_or, length, ap, arith}
use Rattle.quantity.specs.declared.value.Value.TheVariants.{Undefined}
use Rattle.cell_table.proofs.Kept.{row, computed_read, computed_past}
use Rattle.cell_table.proofs.table.CellTable.computed.Goals as goal

pub value_in-requires : goal.value_in-requires
value_in-requires c =
    omega (arith, row c.self.inside c.args.self.now c.self.view_is c.self.invariant c.args.i c.requires.cell, c.self.invariant.computed, ap length c.deref.ensures.value)

pub returns-then-p-self : goal.returns-then-p-self
returns-then-p-self c = c.value_in.ensures ∙ ap (λ xs. get_or xs (c.args.i * c.self.inside.port_count + c.args.p) Undefined) c.deref.ensures.value ∙ computed_read c.self.inside c.args.self.now c.self.view_is c.self.invariant c.args.i c.requires.cell c.args.p c.if-p-self.true

pub returns-else-p-self : goal.returns-else-p-self
returns-else-p-self c = computed_past c.self.inside c.args.self.now c.self.view_is c.self.invariant c.args.i c.requires.cell c.args.p c.if-p-self.false
