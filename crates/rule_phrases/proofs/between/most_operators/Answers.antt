use Rattle.rule_phrases.proofs.Operands.{many_operators, one_operator}
use Rattle.rule_phrases.proofs.between.most_operators.Goals as goal

pub returns-in-Comparison : goal.returns-in-Comparison
returns-in-Comparison c = one_operator c.args.level c.args.tokens c.in-Comparison.is

pub returns-in_default : goal.returns-in_default
returns-in_default c = many_operators c.args.level c.args.tokens c.in_default.not-Comparison
