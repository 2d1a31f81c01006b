use Rattle.std.proofs.Common.{refl}
use Rattle.ma_lines.specs.Sections.{sections_of}
use Rattle.ma_lines.proofs.laws.lines_are_refused.Goals as goal

pub returns : goal.returns
unfolding sections_of
returns c =
    record {
      no_colon = refl;
      no_key = refl;
      no_name = refl;
      bracket_in_name = refl;
      more_behind = refl;
      no_section = refl;
      bad_byte = refl;
      twice = refl;
      first_counts = refl;
      left_open = refl;
      inside_open = refl;
      bracket_behind = refl;
      no_bracket = refl;
      below_comments = refl;
      deleted = refl;
      return_inside = refl;
      two_returns = refl;
      twice_behind_an_entry = refl;
    }
