use Rattle.std.proofs.Common.{refl}
use Rattle.std.specs.Fmt.{digits}
use Rattle.drawlog_top.proofs.laws.lines_of_three_coordinates.Goals as goal

pub returns : goal.returns
unfolding digits
returns c = record {
  given_is_written = refl;
  given_is_read = refl;
  moved_is_written = refl;
  moved_is_read = refl;
  zeros_in_front = refl;
  four_coordinates = refl;
}
