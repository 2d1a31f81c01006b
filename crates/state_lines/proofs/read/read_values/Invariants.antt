use Rattle.std.proofs.Common.{◌≡◌}
use Rattle.quantity.specs.ValueTexts.{guessed_value}
use Rattle.text_forms.specs.StateOf.{all_in}
use Rattle.state_lines.specs.Left.{all_left, left_size}
use Rattle.state_lines.proofs.Taken.{all_ahead}
use Rattle.state_lines.proofs.read.read_values.Given as goal

abbrev pub invariant-loop-word : goal.invariant-loop-word
invariant-loop-word l = all_in guessed_value (all_left l.fn.words)
    ≡ all_ahead l.values.items (all_in guessed_value (all_left l.words))

abbrev pub decreases-loop-word : goal.decreases-loop-word
decreases-loop-word l = left_size l.words
