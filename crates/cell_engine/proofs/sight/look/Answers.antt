use Rattle.std.proofs.Common.{◌≡◌, ◌*◌, ◌∙◌, length, drop, ap, sym, arith}
use Rattle.std.proofs.lemmas.List.{take_at}
use Rattle.cell_engine.specs.Step.{near}
use Rattle.cell_engine.proofs.Looking.{found_cells, looked}
use Rattle.cell_engine.proofs.sight.look.Goals as goal

pub look_at_outs-requires-clause-cells : goal.look_at_outs-requires-clause-cells
look_at_outs-requires-clause-cells c =
    let n = length c.args.table.now.cells in
    let one : c.args.table.now.width ≡ 1 = sym c.width.ensures.value ∙ c.if-width-eq1.true in
    c.all_emitted.ensures.long ∙ ap (λ w. n * w) one ∙ omega arith

pub returns-then-width-eq1-clause-seen : goal.returns-then-width-eq1-clause-seen
returns-then-width-eq1-clause-seen c =
    let seen = c.look_at_outs.new.seen in
    let one : c.args.table.now.width ≡ 1 = sym c.width.ensures.value ∙ c.if-width-eq1.true in
    take_at seen (drop (length seen) c.args.seen.now.items) c.args.seen.now.len (omega (arith, c.look_at_outs.auto.seen, c.deref_mut.ensures.len)) ∙ c.look_at_outs.ensures
    ∙ looked c.args.plan.now c.args.table.now c.args.i c.all_emitted.result.now c.width.ensures.table one c.all_emitted.ensures.values c.requires.cells c.requires.cell

pub see_all-requires-clause-cells : goal.see_all-requires-clause-cells
see_all-requires-clause-cells c =
    found_cells c.args.plan.now c.plan.inside.reach _ c.args.i c.neighbours.new.into (c.plan.invariant.near ∙ ap near c.plan.view_is) c.requires.cells c.requires.cell c.neighbours.ensures
