use Rattle.std.proofs.Common.{ap, sym, ◌∙◌}
use Rattle.std.specs.Option.{option_map}
use Rattle.quantity.specs.Bytes.{is_among}
use Rattle.rule_words.specs.Shown.{text_of}
use Rattle.rule_words.specs.Tokens.{marks}
use Rattle.rule_words.proofs.PieceTokens.{marked}
use Rattle.rule_words.proofs.tokens.mark_token.Goals as goal

pub returns : goal.returns
returns c = marked (is_among marks c.args.text.now) (text_of c.in_ok-read.field-0) c.args.text.now (ap (option_map text_of) (sym c.in_ok-read.was) ∙ c.read.ensures)
