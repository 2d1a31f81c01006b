use Rattle.std.proofs.Common.{List, refl}
use Rattle.rule_tree.specs.Expression.{Rule}
use Rattle.run_model.specs.CellStep.{rule_set}
use Rattle.cell_table.specs.Told.{cell_at}
use Rattle.cell_engine.specs.Cells.{Computes}
use Rattle.cell_engine.specs.Step.{at_port, step_by_rules, sees}
use Rattle.cell_engine.proofs.Ready.{ready_after}
use Rattle.cell_engine.proofs.Ruling.{set_stands, of_the_group}
use Rattle.cell_engine.proofs.Takes.{depth_at, has_rules, has_none}
use Rattle.cell_engine.proofs.bag.treat.Goals as goal

pub by_rules-requires-clause-depth : goal.by_rules-requires-clause-depth
by_rules-requires-clause-depth c =
    depth_at c.args.plan.now.rule_sets c.in-Some.set c.args.desk.now.stack.depth c.codes_at-rules.result.now c.requires.ready.depth c.in-Some.ensures.within c.codes_at-rules.ensures

pub returns-in-Some-clause-cell : goal.returns-in-Some-clause-cell
returns-in-Some-clause-cell c = λ g st sound.
    let l = c.args.plan.now in
    let tb = c.args.table.now in
    let k = c.in-Some.set in
    let s = sees l c.args.t tb c.args.i in
    let cell = cell_at tb.cells c.args.i in
    let rules = c.codes_at-rules.result.now in
    let P : List Rule → Type 0 = λ rs. Computes c.args.i tb.cells c.by_rules.new.table.cells (step_by_rules l.settings.kind (at_port c.args.value s) rs cell) c.by_rules.result in
    has_rules _ c.by_rules.result g l c.args.i k c.args.port.now tb.cells c.by_rules.new.table.cells l.settings.kind s c.args.value cell
    st refl c.in-Some.ensures.value (of_the_group P rules (rule_set g k) (set_stands g l k rules st sound c.codes_at-rules.ensures) c.by_rules.ensures.cell)

pub returns-in-None-clause-cell : goal.returns-in-None-clause-cell
returns-in-None-clause-cell c = λ g st sound.
    let l = c.args.plan.now in
    let tb = c.args.table.now in
    let s = sees l c.args.t tb c.args.i in
    has_none _ c.take_itself.result g l c.args.i c.args.t c.args.port.now tb.cells c.take_itself.new.table.cells s c.args.value (cell_at tb.cells c.args.i)
    st c.in-None.ensures.value (c.take_itself.ensures.cell g st s)

pub returns-in-None-clause-ready : goal.returns-in-None-clause-ready
returns-in-None-clause-ready c =
    let shape = c.take_itself.ensures.shape in
    ready_after c.args.plan.now c.args.table.now c.take_itself.new.table _ _ _ _ shape.width shape.variables shape.cells c.requires.ready
