use Rattle.std.proofs.Common.{sym, ◌∙◌}
use Rattle.quantity.specs.Names.{is_name}
use Rattle.model_walk.proofs.Texts.{all_texts}
use Rattle.model_keys.proofs.names.are_names.Goals as goal

pub returns : goal.returns
returns c = c.each_is_name.ensures ∙ sym (all_texts is_name c.args.found.now)
