use Rattle.std.proofs.Common.{ap, ◌∙◌, length, unwrap_or}
use Rattle.quantity.specs.Bytes.{is_blank}
use Rattle.source_text.proofs.Cuts.{unwrap_or-position}
use Rattle.source_text.proofs.words.blank_or_end.Goals as goal

pub returns : goal.returns
returns c = c.unwrap_or.ensures ∙ ap (λ o. unwrap_or o (length c.args.text.now)) c.first_blank.ensures ∙ unwrap_or-position is_blank c.args.text.now
