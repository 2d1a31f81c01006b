use Rattle.std.proofs.Common.{◌+◌, ◌*◌, ◌<◌, ◌∙◌, get_or, length, ap, sym, arith}
use Rattle.quantity.specs.declared.value.Value.TheVariants.{Undefined}
use Rattle.quantity.specs.Arithmetic.{same_value}
use Rattle.cell_table.proofs.Kept.{row, few, width_seen, take_written, took_nothing}
use Rattle.cell_table.proofs.table.CellTable.take_port.Goals as goal

pub overflow_mul-port : goal.overflow_mul-port
overflow_mul-port c = omega (arith, few c.self.inside c.args.self.now c.self.view_is c.self.invariant c.args.i c.requires.cell)

pub overflow_add-port : goal.overflow_add-port
overflow_add-port c = omega (arith, few c.self.inside c.args.self.now c.self.view_is c.self.invariant c.args.i c.requires.cell, width_seen c.self.inside c.args.self.now c.self.view_is, c.requires.port)

pub value_in-requires : goal.value_in-requires
value_in-requires c =
    omega (arith, row c.self.inside c.args.self.now c.self.view_is c.self.invariant c.args.i c.requires.cell, c.self.invariant.computed, ap length c.deref.ensures.value, width_seen c.self.inside c.args.self.now c.self.view_is, c.requires.port)

pub put-requires : goal.put-requires
put-requires c = omega (arith, row c.self.inside c.args.self.now c.self.view_is c.self.invariant c.args.i c.requires.cell, c.self.invariant.lists, width_seen c.self.inside c.args.self.now c.self.view_is, c.requires.port)

pub index_mut-requires : goal.index_mut-requires
index_mut-requires c = omega (arith, row c.self.inside c.args.self.now c.self.view_is c.self.invariant c.args.i c.requires.cell, c.self.invariant.computed, c.self.inside.computed.ok.0, width_seen c.self.inside c.args.self.now c.self.view_is, c.requires.port)

pub returns-then-is_same-clause-ok : goal.returns-then-is_same-clause-ok
returns-then-is_same-clause-ok c =
    let inside : c.args.p < c.self.inside.port_count = omega (arith, width_seen c.self.inside c.args.self.now c.self.view_is, c.requires.port) in
    let read = c.value_in.ensures ∙ ap (λ xs. get_or xs (c.args.i * c.self.inside.port_count + c.args.p) Undefined) c.deref.ensures.value in
    let same = sym (c.is_same.ensures.value ∙ ap (same_value c.args.value) read) in
    took_nothing c.self.inside c.args.self.now c.self.view_is c.self.invariant c.args.i c.requires.cell c.args.p c.args.at c.args.kind c.args.value inside (same ∙ c.if-is_same.true)

pub returns-clause-ok : goal.returns-clause-ok
returns-clause-ok c =
    let inside : c.args.p < c.self.inside.port_count = omega (arith, width_seen c.self.inside c.args.self.now c.self.view_is, c.requires.port) in
    let read = c.value_in.ensures ∙ ap (λ xs. get_or xs (c.args.i * c.self.inside.port_count + c.args.p) Undefined) c.deref.ensures.value in
    let same = sym (c.is_same.ensures.value ∙ ap (same_value c.args.value) read) in
    rw c.of.ensures (take_written c.self.inside c.args.self.now c.self.view_is c.self.invariant c.args.i c.requires.cell c.args.p c.args.at c.args.kind c.args.value c.put.new.delays.lists inside (same ∙ c.if-is_same.false) c.in_ok-put.ensures.ok)
