use Rattle.std.proofs.Common.{sym, ◌∙◌}
use Rattle.quantity.proofs.DigitLemmas.{all_ascii_digits-list_all}
use Rattle.state_lines.proofs.literal.all_are_digits.Goals as goal

pub returns : goal.returns
returns c = c.each_is_digit.ensures ∙ sym (all_ascii_digits-list_all c.args.text.now)
