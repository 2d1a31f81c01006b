use Rattle.std.proofs.Common.{◌+◌, ◌*◌, ◌∙◌, [], ℕ, get_or, ap, sym, arith}
use Rattle.cell_table.specs.Table.{given_by_port}
use Rattle.run_model.specs.CellStep.{port_emitted}
use Rattle.quantity.specs.declared.value.Value.TheVariants.{Undefined}
use Rattle.cell_table.proofs.Kept.{row, few, port_seen, port_none, given_is, not_given, emit_written, emitted_nothing, past}
use Rattle.cell_table.proofs.Taking.{taken_past}
use Rattle.cell_table.proofs.table.CellTable.emit_port.Goals as goal

pub overflow_mul-port : goal.overflow_mul-port
overflow_mul-port c = omega (arith, few c.self.inside c.args.self.now c.self.view_is c.self.invariant c.args.i c.requires.cell)

pub overflow_add-port : goal.overflow_add-port
overflow_add-port c = omega (arith, few c.self.inside c.args.self.now c.self.view_is c.self.invariant c.args.i c.requires.cell)

pub first_at-requires : goal.first_at-requires
first_at-requires c = omega (arith, row c.self.inside c.args.self.now c.self.view_is c.self.invariant c.args.i c.requires.cell, c.self.invariant.lists)

pub returns-in-Some-clause-given : goal.returns-in-Some-clause-given
returns-in-Some-clause-given c =
    let k : ℕ = c.args.i * c.self.inside.port_count + c.args.p in
    given_is c.args.t c.in-Some.pair.0 c.in-Some.pair.1 (get_or c.self.inside.emitted.items k Undefined) (get_or c.self.inside.computed.items k Undefined) (get_or c.self.inside.delays.lists k []) (sym c.in-Some.ensures)
    ∙ sym (ap (given_by_port c.args.t) (port_seen c.self.inside c.args.self.now c.self.view_is c.self.invariant c.args.i c.requires.cell c.args.p c.if-p-self.true))

pub returns-in-Some-clause-port : goal.returns-in-Some-clause-port
returns-in-Some-clause-port c =
    rw c.of.ensures (emit_written c.self.inside c.args.self.now c.self.view_is c.self.invariant c.args.i c.requires.cell c.args.p c.args.t c.in-Some.pair.0 c.in-Some.pair.1 c.take_first.new.self.lists c.if-p-self.true (sym c.in-Some.ensures) c.take_first.ensures.list)

pub returns-in-None-clause-given : goal.returns-in-None-clause-given
returns-in-None-clause-given c =
    let k : ℕ = c.args.i * c.self.inside.port_count + c.args.p in
    not_given c.args.t (get_or c.self.inside.emitted.items k Undefined) (get_or c.self.inside.computed.items k Undefined) (get_or c.self.inside.delays.lists k []) (sym c.in-None.ensures)
    ∙ sym (ap (given_by_port c.args.t) (port_seen c.self.inside c.args.self.now c.self.view_is c.self.invariant c.args.i c.requires.cell c.args.p c.if-p-self.true))

pub returns-in-None-clause-port : goal.returns-in-None-clause-port
returns-in-None-clause-port c = emitted_nothing c.self.inside c.args.self.now c.self.view_is c.self.invariant c.args.i c.requires.cell c.args.p c.args.t c.if-p-self.true (sym c.in-None.ensures)

pub returns-else-p-self-clause-given : goal.returns-else-p-self-clause-given
returns-else-p-self-clause-given c = sym (ap (given_by_port c.args.t) (port_none c.self.inside c.args.self.now c.self.view_is c.self.invariant c.args.i c.requires.cell c.args.p c.if-p-self.false))

pub returns-else-p-self-clause-port : goal.returns-else-p-self-clause-port
returns-else-p-self-clause-port c = sym (taken_past c.args.i c.args.p (port_emitted c.args.t) c.args.self.now (past c.self.inside c.args.self.now c.self.view_is c.self.invariant c.args.i c.requires.cell c.args.p c.if-p-self.false))
