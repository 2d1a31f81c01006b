use Rattle.std.proofs.Common.{sym, ◌∙◌}
use Rattle.rule_syntax.proofs.TokenParts.{empty_by, no_parts_ended, parts_ended, parts_left}
use Rattle.rule_syntax.proofs.assigned.ended_parts.Goals as goal

pub returns-then-not-is_empty : goal.returns-then-not-is_empty
returns-then-not-is_empty c = parts_left c.args.parts.now c.in_ok-left.ended.now c.in_ok-left.left.now c.in_ok-left.ensures.cases.0 (empty_by _ _ (sym c.is_empty.ensures ∙ c.if-not-is_empty.true))

pub returns-then-is_empty : goal.returns-then-is_empty
returns-then-is_empty c = no_parts_ended c.args.parts.now c.in_ok-left.ended.now c.in_ok-left.left.now c.in_ok-left.ensures.cases.0 (empty_by _ _ (sym c.is_empty-2.ensures ∙ c.if-is_empty.true))

pub returns : goal.returns
returns c =
    parts_ended c.args.parts.now c.in_ok-left.ended.now c.in_ok-left.left.now c.in_ok-left.ensures.cases.0 (empty_by _ _ (sym c.is_empty.ensures ∙ c.if-not-is_empty.false))
    (empty_by _ _ (sym c.is_empty-2.ensures ∙ c.if-is_empty.false))
