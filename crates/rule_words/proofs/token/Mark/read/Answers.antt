use Rattle.std.proofs.Common.{ap, ◌∙◌}
use Rattle.std.specs.Option.{option_map}
use Rattle.rule_words.specs.Shown.{text_of}
use Rattle.rule_words.proofs.MarksRead.{mark_read}
use Rattle.rule_words.proofs.token.Mark.read.Goals as goal

pub returns : goal.returns
returns c = ap (option_map text_of) c.mark_in.ensures ∙ mark_read c.args.text.now
