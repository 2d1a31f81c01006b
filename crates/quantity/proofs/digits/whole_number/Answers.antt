use Rattle.std.proofs.Common.{length, sym, ◌∙◌}
use Rattle.quantity.proofs.DigitLemmas.{below_more, no_longer}
use Rattle.quantity.proofs.digits.whole_number.Goals as goal

pub returns-then-are_digits-clause-below : goal.returns-then-are_digits-clause-below
returns-then-are_digits-clause-below c =
    below_more c.number_in.result (length c.args.text.now) c.args.most c.number_in.ensures.below (no_longer 1 c.args.most c.args.text.now (sym c.are_digits.ensures ∙ c.if-are_digits.true))
