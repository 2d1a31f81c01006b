use Rattle.std.proofs.Common.{ap, sym, ◌∙◌}
use Rattle.quantity.specs.ValueTexts.{guessed_value}
use Rattle.text_forms.specs.StateOf.{all_in}
use Rattle.state_lines.specs.Left.{all_left}
use Rattle.state_lines.proofs.Taken.{all_ahead, all_one}
use Rattle.state_lines.proofs.read.read_values.Goals as goal

pub loop-word-preserved : goal.loop-word-preserved
loop-word-preserved c =
    let xs = c.loop-word.values.items in
    let word = c.in-Some.word.now in
    let left = all_left c.next_word.new.words in
    c.loop-word.invariant ∙ ap (λ ws. all_ahead xs (all_in guessed_value ws)) c.in-Some.ensures.value
    ∙ all_one guessed_value word left xs c.in-Some-guessed_value.value (sym c.guessed_value.ensures ∙ c.in-Some-guessed_value.is)
    ∙ ap (λ vs. all_ahead vs (all_in guessed_value left)) (sym c.in-Ok.ensures.items)
