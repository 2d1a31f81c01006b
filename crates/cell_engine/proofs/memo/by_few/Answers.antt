use Rattle.std.proofs.Common.{◌≡◌, ◌<◌, ℕ, List, [], get_or, refl, sym, ◌∙◌, ap, subst, arith, Ok}
use Rattle.std.specs.List.{All}
use Rattle.std.specs.declared.result.Result.{Result}
use Rattle.quantity.specs.declared.delay.DelayKind.{DelayKind}
use Rattle.quantity.specs.declared.value.Value.{Value}
use Rattle.rule_tree.specs.declared.outcome.RuleStop.{RuleStop}
use Rattle.rule_tree.specs.Expression.{Rule}
use Rattle.rule_tree.specs.Chosen.{outcome_of_rules}
use Rattle.rule_forms.specs.declared.given.Given.{Given}
use Rattle.rule_forms.specs.ByPort.{Evaluates}
use Rattle.cell_grid.specs.Space.{cell_count}
use Rattle.cell_table.specs.Told.{cell_at}
use Rattle.cell_engine.specs.declared.memo.Known.{Known}
use Rattle.cell_engine.specs.Layout.{Layout}
use Rattle.cell_engine.specs.Cells.{Computes}
use Rattle.cell_engine.specs.Step.{step_by_rules, rules_at, sees}
use Rattle.cell_engine.specs.Store.{IsPlan}
use Rattle.cell_engine.specs.Known.{seen_at, IsAnswer}
use Rattle.cell_engine.proofs.Knowing.{sees_few}
use Rattle.cell_engine.proofs.Ready.{ready_after}
use Rattle.cell_engine.proofs.Ruling.{only_set}
use Rattle.cell_engine.proofs.Takes.{rules_finish}
use Rattle.cell_engine.proofs.memo.by_few.Goals as goal

pub later-requires-clause-delay : goal.later-requires-clause-delay
later-requires-clause-delay c =
    let memo = c.args.memo.now in
    let first = get_or c.args.plan.now.rule_sets 0 [] in
    (c.in-Some.ensures memo.own first (subst (λ (ks : List Known). All (IsAnswer memo.own first) ks) (sym c.deref.ensures.value) c.requires.memo.each)).bounded

pub returns-in-Some-clause-cell : goal.returns-in-Some-clause-cell
returns-in-Some-clause-cell c = λ apart.
    let l = c.args.plan.now in
    let tb = c.args.table.now in
    let i = c.args.i in
    let own = rules_at l i in
    let memo = c.args.memo.now in
    let cell = cell_at tb.cells i in
    let s = sees l c.args.t tb i in
    let first = get_or l.rule_sets 0 [] in
    let alike = c.requires.memo.alike c.requires.some in
    let here : i < cell_count l.space = omega (arith, c.requires.cell, c.requires.ready.cells) in
    let same : own ≡ first = only_set l c.plan.inside.reach i (subst (λ (m : Layout). IsPlan m c.plan.inside.reach) c.plan.view_is c.plan.invariant) alike.single here in
    let none = c.requires.ready.variables ∙ alike.variables in
    let few = sees_few l c.args.t memo.own i tb c.emitted-own.result c.args.tally c.width-width.ensures.table c.requires.cell c.requires.ready.cells none alike.own_offset c.emitted-own.ensures c.requires.tally in
    let gives = c.in-Some.ensures memo.own first (subst (λ (ks : List Known). All (IsAnswer memo.own first) ks) (sym c.deref.ensures.value) c.requires.memo.each) in
    let made : Result (Given × ℕ) RuleStop = Ok (c.in-Some.kept.now.given, c.in-Some.kept.now.delay) in
    let evaluated : Evaluates (outcome_of_rules own (record s { variables = cell.variables })) made cell.variables =
    subst (λ (xs : List Value). Evaluates (outcome_of_rules own (record s { variables = cell.variables })) made xs) (sym few.variables)
    (subst (λ (rs : List Rule). Evaluates (outcome_of_rules rs (record s { variables = cell.variables })) made []) (sym same) (gives.given (seen_at s cell.variables) few)) in
    subst (λ (kind : DelayKind). Computes i tb.cells c.take_lent.new.table.cells (step_by_rules kind s own cell) c.take_lent.result) (ap (λ (m : Layout). m.settings.kind) c.plan.view_is)
    (rules_finish _ c.take_lent.result i tb.cells c.take_lent.new.table.cells c.plan.inside.settings.kind c.later.result s cell.variables cell own
    (c.in-Some.kept.now.given, c.in-Some.kept.now.delay) cell.variables refl apart evaluated (λ _. c.later.ensures) c.take_lent.ensures.memory c.take_lent.ensures.cell)

pub returns-in-Some-clause-ready : goal.returns-in-Some-clause-ready
returns-in-Some-clause-ready c =
    let shape = c.take_lent.ensures.shape in
    ready_after c.args.plan.now c.args.table.now c.take_lent.new.table _ _ _ _ shape.width shape.variables shape.cells c.requires.ready

pub returns-in-Some-clause-only : goal.returns-in-Some-clause-only
returns-in-Some-clause-only c = c.take_lent.ensures.only

pub returns-in-None-clause-cell : goal.returns-in-None-clause-cell
returns-in-None-clause-cell c = c.elsewhere.ensures.cell
