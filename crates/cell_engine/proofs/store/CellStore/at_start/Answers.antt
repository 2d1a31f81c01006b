use Rattle.std.proofs.Common.{◌*◌, ◌+◌, ◌∙◌, length, ap, sym, arith}
use Rattle.model_tree.specs.Stands.{group_of}
use Rattle.cell_table.specs.Table.{Table}
use Rattle.cell_engine.proofs.Made.{numbers, made_ready}
use Rattle.cell_engine.proofs.Shown.{first_kept}
use Rattle.cell_engine.proofs.store.CellStore.at_start.Goals as goal

pub work_for-requires : goal.work_for-requires
work_for-requires c =
    let n = numbers (group_of c.args.group.now) c.requires.sound in
    let all = c.deref.ensures.value in
    record {
      offsets = all ∙ sym c.requires.plan.offsets;
      few = omega (arith, ap length all, n.offsets);
      ports = omega (arith, c.requires.plan.ports, n.ports);
    }

pub invariant_of-result : goal.invariant_of-result
invariant_of-result c =
    let g = group_of c.args.group.now in
    let plan = c.args.plan in
    let table = c.args.table in
    let w = c.in_ok-work.ensures in
    let all = c.deref.ensures.value in
    let wide = ap (λ n. n + 1) c.requires.plan.ports ∙ sym (ap (λ (t : Table). t.width) c.requires.table) in
    let seen = w.desk.seen ∙ (λ k. sym w.desk.neighbours k * wide k) in (
      made_ready g plan table _ _ _ _ c.requires.sound c.requires.plan c.requires.table (w.desk.neighbours ∙ ap length all) seen w.desk.changed w.desk.depth,
      first_kept plan table g.initial g.port_values g.variable_values _ c.in_ok-work.work.tallies.items c.requires.table (ap length (all ∙ sym c.requires.plan.offsets)) w.tallies,
      w.memo,
    )
