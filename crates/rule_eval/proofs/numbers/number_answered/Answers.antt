use Rattle.std.proofs.Common.{Some, ap, ◌∙◌}
use Rattle.std.specs.Option.{option_map}
use Rattle.rule_tree.specs.Meaning.{number_answered}
use Rattle.rule_eval.proofs.numbers.number_answered.Goals as goal

pub returns-in-Ok-clause-value : goal.returns-in-Ok-clause-value
returns-in-Ok-clause-value c =
    ap Some c.number_in.ensures ∙ ap (option_map number_answered) c.in-Ok.ensures.value

pub returns-in-Err-clause-value : goal.returns-in-Err-clause-value
returns-in-Err-clause-value c = ap (option_map number_answered) c.in-Err.ensures.value
