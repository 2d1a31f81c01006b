use Rattle.std.proofs.Common.{◌∙◌, ℕ, List, Result, Ok, length, refl, sym, ap, subst}
use Rattle.quantity.specs.declared.delay.DelayKind.{DelayKind}
use Rattle.quantity.specs.declared.value.Value.{Value}
use Rattle.rule_tree.specs.declared.outcome.RuleStop.{RuleStop}
use Rattle.rule_tree.specs.Chosen.{outcome_of_rules}
use Rattle.rule_forms.specs.ByPort.{Evaluates}
use Rattle.rule_forms.specs.declared.given.Given.{Given}
use Rattle.cell_table.specs.Told.{cell_at}
use Rattle.cell_table.proofs.Taking.{only_itself}
use Rattle.cell_engine.specs.Layout.{Layout}
use Rattle.cell_engine.specs.Cells.{Computes}
use Rattle.cell_engine.specs.Step.{step_by_rules, sees, at_port, given_found, variables_found}
use Rattle.cell_engine.proofs.Ready.{ready_after}
use Rattle.cell_engine.proofs.Takes.{found_is, rules_finish, rules_stop}
use Rattle.cell_engine.proofs.step.by_rules_knowing.Goals as goal

pub take_found-requires : goal.take_found-requires
take_found-requires c =
    let ready = c.evaluate_cell.ensures.ready in
    record { cell = c.requires.cell; variables = ap length c.deref.ensures.value ∙ ready.changed ∙ sym ready.variables }

pub returns-in-Ok-clause-only : goal.returns-in-Ok-clause-only
returns-in-Ok-clause-only c = c.take_found.ensures.only

pub returns-in-Ok-clause-ready : goal.returns-in-Ok-clause-ready
returns-in-Ok-clause-ready c =
    let shape = c.take_found.ensures.shape in
    ready_after c.args.plan.now c.args.table.now c.take_found.new.table _ _ _ _ shape.width shape.variables shape.cells c.evaluate_cell.ensures.ready

pub returns-in-Ok-clause-cell : goal.returns-in-Ok-clause-cell
returns-in-Ok-clause-cell c = λ apart.
    let own = c.args.rules.now in
    let tb = c.args.table.now in
    let i = c.args.i in
    let cell = cell_at tb.cells i in
    let s = at_port c.args.port (sees c.args.plan.now c.args.t tb i) in
    let lent = c.in-Ok.lent in
    let desk = c.evaluate_cell.new.desk in
    let made : Result (Given × ℕ) RuleStop = Ok (given_found lent desk.given, c.in-Ok.delay) in
    let meant : Evaluates (outcome_of_rules own (record s { variables = cell.variables })) made (variables_found lent desk.changed.items cell.variables) =
    found_is (Evaluates (outcome_of_rules own (record s { variables = cell.variables }))) lent c.in-Ok.delay desk.given desk.changed.items cell.variables c.in-Ok.ensures.value in
    subst (λ (kind : DelayKind). Computes i tb.cells c.take_found.new.table.cells (step_by_rules kind s own cell) c.take_found.result) (ap (λ (m : Layout). m.settings.kind) c.plan.view_is)
    (rules_finish _ c.take_found.result i tb.cells c.take_found.new.table.cells c.plan.inside.settings.kind c.later-at.result s cell.variables cell own
    (given_found lent desk.given, c.in-Ok.delay) (variables_found lent c.deref.result.now cell.variables) refl apart
    (subst (λ (ys : List Value). Evaluates (outcome_of_rules own (record s { variables = cell.variables })) made (variables_found lent ys cell.variables)) (sym c.deref.ensures.value) meant)
    (λ _. c.later-at.ensures) c.take_found.ensures.memory c.take_found.ensures.cell)

pub returns-in-Err-clause-only : goal.returns-in-Err-clause-only
returns-in-Err-clause-only c = only_itself c.args.i c.args.table.now.cells

pub returns-in-Err-clause-cell : goal.returns-in-Err-clause-cell
returns-in-Err-clause-cell c = λ apart.
    let l = c.args.plan.now in
    let tb = c.args.table.now in
    let i = c.args.i in
    let cell = cell_at tb.cells i in
    rules_stop _ i tb.cells tb.cells l.settings.kind (at_port c.args.port (sees l c.args.t tb i)) cell.variables cell c.args.rules.now
    c.in-Err.stop c.evaluate_cell.new.desk.changed.items refl c.in-Err.ensures.value
