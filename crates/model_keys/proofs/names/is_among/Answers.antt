use Rattle.std.proofs.Common.{sym, ◌∙◌}
use Rattle.model_walk.proofs.Texts.{among_texts}
use Rattle.model_keys.proofs.names.is_among.Goals as goal

pub returns : goal.returns
returns c = c.is_one_of.ensures ∙ sym (among_texts c.args.found.now c.args.text.now)
