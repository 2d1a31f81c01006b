use Rattle.quantity.proofs.DigitLemmas.{below_more}
use Rattle.quantity.proofs.time.milliseconds.Goals as goal

pub total-requires-clause-hours : goal.total-requires-clause-hours
total-requires-clause-hours c = below_more c.in_ok-hours.hours c.args.hour_digits 3 c.in_ok-hours.ensures.below c.requires
