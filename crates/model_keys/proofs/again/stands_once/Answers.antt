use Rattle.std.proofs.Common.{sym, ap, ◌∙◌}
use Rattle.quantity.specs.Bytes.{is_among}
use Rattle.model_keys.specs.declared.again.Once.{Once}
use Rattle.model_keys.specs.Tables.{once_of}
use Rattle.model_keys.proofs.Parts.{among_once}
use Rattle.model_keys.proofs.again.stands_once.Goals as goal

pub returns-in-Keys : goal.returns-in-Keys
returns-in-Keys c = c.is_once.ensures ∙ sym (among_once c.in-Keys.keys.now c.args.word.now) ∙ ap (λ (o : Once). is_among (once_of o) c.args.word.now) (sym c.in-Keys.is)
