use Rattle.quantity.specs.declared.value.Value.TheVariants.{Undefined}
use Rattle.rule_tree.specs.Chosen.{outcome_of_rules}
use Rattle.rule_forms.specs.ByPort.{Evaluates}
use Rattle.cell_table.specs.Told.{cell_at}
use Rattle.cell_engine.specs.Known.{seen_at}
use Rattle.cell_engine.specs.Step.{at_port, sees}
use Rattle.cell_engine.proofs.Takes.{constant_delay, constant_means}
use Rattle.cell_engine.proofs.memo.constant_for.Goals as goal

pub evaluate_cell-requires-clause-known : goal.evaluate_cell-requires-clause-known
evaluate_cell-requires-clause-known c = c.requires.tally

pub returns-in-Ok-clause-given : goal.returns-in-Ok-clause-given
returns-in-Ok-clause-given c =
    let tb = c.args.table.now in
    let seen = (cell_at tb.cells c.args.i).variables in
    let desk = c.evaluate_cell.new.desk in
    constant_means (Evaluates (outcome_of_rules c.args.rules.now (seen_at (at_port Undefined (sees c.args.plan.now c.args.t tb c.args.i)) seen))) c.in-Ok.lent c.constant_in.result c.in-Ok.delay
    desk.given desk.changed.items seen c.constant_in.ensures c.in-Ok.ensures.value

pub returns-in-Ok-clause-delay : goal.returns-in-Ok-clause-delay
returns-in-Ok-clause-delay c = constant_delay c.in-Ok.lent c.constant_in.result c.in-Ok.delay c.constant_in.ensures c.in-Ok.ensures.delay
