use Rattle.std.proofs.Common.{ap, ◌∙◌}
use Rattle.std.specs.Prelude.{unwrap_or}
use Rattle.model_rules.proofs.Whole.{position_by_text}
use Rattle.model_rules.proofs.names.number.Goals as goal

pub returns : goal.returns
returns c = c.unwrap_or.ensures ∙ ap (λ o. unwrap_or o 0) (c.get_index_of.ensures.index ∙ position_by_text c.args.names.now.keys c.args.name.now)
