use Rattle.rule_syntax.proofs.RuleRead.{stops_at_cell, stops_at_name, stops_at_port, stops_at_variable}
use Rattle.rule_syntax.proofs.rule.refused.Goals as goal

pub returns-then-rule : goal.returns-then-rule
returns-then-rule c = stops_at_port c.args.rule.now c.if-rule.true

pub returns-then-rule-2 : goal.returns-then-rule-2
returns-then-rule-2 c = stops_at_cell c.args.rule.now c.if-rule.false c.if-rule-2.true

pub returns-then-rule-3 : goal.returns-then-rule-3
returns-then-rule-3 c = stops_at_variable c.args.rule.now c.if-rule.false c.if-rule-2.false c.if-rule-3.true

pub returns-then-rule-4 : goal.returns-then-rule-4
returns-then-rule-4 c = stops_at_name c.args.rule.now c.if-rule.false c.if-rule-2.false c.if-rule-3.false c.if-rule-4.true
