use Rattle.std.proofs.Common.{◌∙◌, ◌*◌, ℕ, List, length, sym, ap, subst, arith}
use Rattle.std.specs.List.{All}
use Rattle.std.proofs.lemmas.List.{length-map, with_items_is}
use Rattle.run_model.specs.CellStep.{PortState}
use Rattle.run_model.specs.Waiting.{RisesFrom}
use Rattle.cell_table.specs.declared.state.PortState as saved
use Rattle.cell_table.specs.Saved.{port_of_saved, cell_of_saved}
use Rattle.cell_table.specs.Table.{with_piece}
use Rattle.cell_table.proofs.Kept.{row, variable_row, width_seen, count_seen}
use Rattle.cell_table.proofs.Waits.{saved_rises}
use Rattle.cell_table.proofs.Written.{cell_written, part_saved}
use Rattle.cell_table.proofs.table.CellTable.put.Goals as goal

pub write_lists-requires-clause-within : goal.write_lists-requires-clause-within
write_lists-requires-clause-within c =
    omega (arith, row c.self.inside c.args.self.now c.self.view_is c.self.invariant c.args.i c.requires.cell, c.self.invariant.lists, ap length c.reserve.ensures.lists, ap length c.deref-2.ensures.value, c.requires.ports, width_seen c.self.inside c.args.self.now c.self.view_is)

pub write_lists-requires-clause-rising : goal.write_lists-requires-clause-rising
write_lists-requires-clause-rising c =
    subst (λ (ps : List saved.PortState). All (λ (p : saved.PortState). RisesFrom 0 p.pairs.items) ps) (sym c.deref-2.ensures.value) (saved_rises c.args.state.now.ports.items c.requires.rising)

pub write_emitted-requires : goal.write_emitted-requires
write_emitted-requires c =
    omega (arith, row c.self.inside c.args.self.now c.self.view_is c.self.invariant c.args.i c.requires.cell, c.self.invariant.emitted, ap length c.deref_mut.ensures.value, ap length c.deref-3.ensures.value, c.requires.ports, width_seen c.self.inside c.args.self.now c.self.view_is)

pub write_computed-requires : goal.write_computed-requires
write_computed-requires c =
    omega (arith, row c.self.inside c.args.self.now c.self.view_is c.self.invariant c.args.i c.requires.cell, c.self.invariant.computed, ap length c.deref_mut-2.ensures.value, ap length c.deref-4.ensures.value, c.requires.ports, width_seen c.self.inside c.args.self.now c.self.view_is)

pub write-requires : goal.write-requires
write-requires c =
    omega (arith, variable_row c.self.inside c.args.self.now c.self.view_is c.self.invariant c.args.i c.requires.cell, c.self.invariant.variables, ap length c.deref_mut-3.ensures.value, ap length c.deref-5.ensures.value, c.requires.variables, count_seen c.self.inside c.args.self.now c.self.view_is)

pub returns-clause-ok : goal.returns-clause-ok
returns-clause-ok c =
    let s = c.self.inside in
    let i = c.args.i in
    let state = c.args.state.now in
    let ports = state.ports.items in
    let first : ℕ = i * s.port_count in
    let long = length-map ports port_of_saved ∙ c.requires.ports ∙ sym (width_seen s c.args.self.now c.self.view_is) in
    let many = c.requires.variables ∙ sym (count_seen s c.args.self.now c.self.view_is) in
    let emitted =
    with_items_is s.emitted c.write_emitted.new.values (omega (arith, c.write_emitted.auto.values, s.emitted.ok.0))
    ∙ part_saved (λ (p : PortState). p.emitted) s.emitted.items c.deref_mut.result.now c.write_emitted.new.values first ports c.deref-3.result.now c.deref-3.ensures.value c.deref_mut.ensures.value c.write_emitted.ensures in
    let computed =
    with_items_is s.computed c.write_computed.new.values (omega (arith, c.write_computed.auto.values, s.computed.ok.0))
    ∙ part_saved (λ (p : PortState). p.computed) s.computed.items c.deref_mut-2.result.now c.write_computed.new.values first ports c.deref-4.result.now c.deref-4.ensures.value c.deref_mut-2.ensures.value c.write_computed.ensures in
    let lists = part_saved (λ (p : PortState). p.pairs) s.delays.lists c.reserve.new.self.lists c.write_lists.new.delays.lists first ports c.deref-2.result.now c.deref-2.ensures.value c.reserve.ensures.lists c.write_lists.ensures in
    let variables =
    with_items_is s.variables c.write.new.values (omega (arith, c.write.auto.values, s.variables.ok.0)) ∙ c.write.ensures
    ∙ (λ k. with_piece (i * s.variable_count) (c.deref-5.ensures.value k) (c.deref_mut-3.ensures.value k)) in
    cell_written s c.args.self.now c.self.view_is c.self.invariant i c.requires.cell (cell_of_saved state) _ _ _ c.write_lists.new.delays.lists long many emitted computed lists variables
