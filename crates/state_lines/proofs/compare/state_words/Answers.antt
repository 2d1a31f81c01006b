use Rattle.std.proofs.Common.{ap, ◌∙◌, drop}
use Rattle.text_forms.specs.StateOf.{line_words}
use Rattle.state_lines.proofs.Compared.{two_less}
use Rattle.state_lines.proofs.compare.state_words.Goals as goal

pub returns : goal.returns
returns c = c.next_word-name.ensures.rest ∙ ap (drop 1) c.next_word-kind.ensures.rest
    ∙ two_less (line_words c.args.line.now)
