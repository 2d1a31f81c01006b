-- The texts of numbers compute where the digits of a number do.
use Rattle.std.proofs.Common.{refl}
use Rattle.std.specs.Fmt.{digits}
use Rattle.quantity.proofs.laws.text_examples.Goals as goal

pub returns-clause-texts : goal.returns-clause-texts
unfolding digits
returns-clause-texts c =
    record {
      five_decimals = refl;
      undefined = refl;
      longest = refl;
      cut_to_zero = refl;
      cut = refl;
      right = refl;
      whole = refl;
      undefined_right = refl;
      read = refl;
      few_decimals = refl;
      zero_first = refl;
      zero_below = refl;
      too_large = refl;
    }

pub returns-clause-times : goal.returns-clause-times
unfolding digits
returns-clause-times c =
    record {
      short = refl;
      greatest_written = refl;
      sixty_minutes = refl;
      sixty_seconds = refl;
      three_hours_digits = refl;
      three_parts = refl;
      five_parts = refl;
      no_digits = refl;
      text = refl;
      longest = refl;
      zero = refl;
      read = refl;
      not_written_so = refl;
      too_late = refl;
    }
