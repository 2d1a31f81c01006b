use Rattle.std.proofs.Common.{List, [], Some, get_or, ◌∙◌, ap, subst}
use Rattle.std.specs.Prelude.{IsTrue}
use Rattle.std.specs.List.{list_all}
use Rattle.rule_tree.specs.Expression.{Rule}
use Rattle.cell_table.specs.Told.{cell_at}
use Rattle.cell_engine.specs.Cells.{Computes}
use Rattle.cell_engine.specs.Step.{gives_apart, step_by_rules, sees}
use Rattle.cell_engine.proofs.Shown.{tally_seen}
use Rattle.cell_engine.proofs.Takes.{depth_at}
use Rattle.cell_engine.proofs.step.by_own.Goals as goal

pub by_rules_counted-requires-clause-depth : goal.by_rules_counted-requires-clause-depth
by_rules_counted-requires-clause-depth c =
    depth_at c.args.plan.now.rule_sets c.set_at.result c.args.desk.now.stack.depth c.codes_at-rules.result.now c.requires.ready.depth c.set_at.ensures.within c.codes_at-rules.ensures

pub by_rules_counted-requires-clause-tally : goal.by_rules_counted-requires-clause-tally
by_rules_counted-requires-clause-tally c =
    tally_seen c.args.plan.now c.args.t c.args.table.now c.args.i c.args.tallies.now (Some c.in-Some.tally) c.in-Some.ensures.within c.in-Some.ensures.value c.requires.tallies

pub by_rules-requires-clause-depth : goal.by_rules-requires-clause-depth
by_rules-requires-clause-depth c =
    depth_at c.args.plan.now.rule_sets c.set_at.result c.args.desk.now.stack.depth c.codes_at-rules.result.now c.requires.ready.depth c.set_at.ensures.within c.codes_at-rules.ensures

pub returns-in-Some-clause-cell : goal.returns-in-Some-clause-cell
returns-in-Some-clause-cell c =
    let l = c.args.plan.now in
    let tb = c.args.table.now in
    let i = c.args.i in
    let s = sees l c.args.t tb i in
    subst (λ (rs : List Rule). IsTrue (list_all gives_apart rs) → Computes i tb.cells c.by_rules_counted.new.table.cells (step_by_rules l.settings.kind s rs (cell_at tb.cells i)) c.by_rules_counted.result)
    (c.codes_at-rules.ensures ∙ ap (λ k. get_or l.rule_sets k []) c.set_at.ensures.value) c.by_rules_counted.ensures.cell

pub returns-in-None-clause-cell : goal.returns-in-None-clause-cell
returns-in-None-clause-cell c =
    let l = c.args.plan.now in
    let tb = c.args.table.now in
    let i = c.args.i in
    let s = sees l c.args.t tb i in
    subst (λ (rs : List Rule). IsTrue (list_all gives_apart rs) → Computes i tb.cells c.by_rules.new.table.cells (step_by_rules l.settings.kind s rs (cell_at tb.cells i)) c.by_rules.result)
    (c.codes_at-rules.ensures ∙ ap (λ k. get_or l.rule_sets k []) c.set_at.ensures.value) c.by_rules.ensures.cell
