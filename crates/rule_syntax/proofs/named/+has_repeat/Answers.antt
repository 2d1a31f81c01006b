use Rattle.rule_syntax.proofs.OneMore.{first_is_alone, first_repeats}
use Rattle.rule_syntax.proofs.named.+has_repeat.Goals as goal

pub returns-then-is_among : goal.returns-then-is_among
returns-then-is_among t c = first_repeats c.args.values.now c.in-Some.rest.now c.in-Some.first.now c.is_among.result c.in-Some.ensures.cases.0 c.is_among.ensures c.if-is_among.true

pub returns-else-is_among : goal.returns-else-is_among
returns-else-is_among t c = first_is_alone c.args.values.now c.in-Some.rest.now c.in-Some.first.now c.is_among.result c.has_repeat.result c.in-Some.ensures.cases.0 c.is_among.ensures c.if-is_among.false c.has_repeat.ensures
