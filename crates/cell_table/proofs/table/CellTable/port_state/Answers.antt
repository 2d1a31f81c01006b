use Rattle.std.proofs.Common.{◌∙◌, ◌+◌, ◌*◌, ◌<◌, ◌++◌, ℕ, get_or, sym, ap, arith}
use Rattle.quantity.specs.declared.value.Value.TheVariants.{Undefined}
use Rattle.delay_lines.specs.Lists.{list_of}
use Rattle.cell_table.proofs.Kept.{row, few, width_seen, port_seen}
use Rattle.cell_table.proofs.table.CellTable.port_state.Goals as goal

pub overflow_mul-port : goal.overflow_mul-port
overflow_mul-port c = omega (arith, few c.self.inside c.args.self.now c.self.view_is c.self.invariant c.args.i c.requires.cell)

pub overflow_add-port : goal.overflow_add-port
overflow_add-port c = omega (arith, few c.self.inside c.args.self.now c.self.view_is c.self.invariant c.args.i c.requires.cell, width_seen c.self.inside c.args.self.now c.self.view_is, c.requires.port)

pub pairs-requires : goal.pairs-requires
pairs-requires c = omega (arith, row c.self.inside c.args.self.now c.self.view_is c.self.invariant c.args.i c.requires.cell, c.self.invariant.lists, width_seen c.self.inside c.args.self.now c.self.view_is, c.requires.port)

pub returns : goal.returns
returns c =
    let k : ℕ = c.args.i * c.self.inside.port_count + c.args.p in
    let inside : c.args.p < c.self.inside.port_count = omega (arith, width_seen c.self.inside c.args.self.now c.self.view_is, c.requires.port) in
    let e = c.value_at.ensures ∙ ap (λ xs. get_or xs k Undefined) c.deref.ensures.value in
    let d = c.value_at-2.ensures ∙ ap (λ xs. get_or xs k Undefined) c.deref-2.ensures.value in
    let l = c.in_ok-pairs.ensures.ok ∙ ap (λ xs. xs ++ list_of c.self.inside.delays k) c.new-pairs.ensures.items in
    (λ j. record { emitted = e j; computed = d j; pairs = l j }) ∙ sym (port_seen c.self.inside c.args.self.now c.self.view_is c.self.invariant c.args.i c.requires.cell c.args.p inside)
