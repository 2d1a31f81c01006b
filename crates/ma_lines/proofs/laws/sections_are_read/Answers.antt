use Rattle.std.proofs.Common.{refl}
use Rattle.ma_lines.specs.Sections.{sections_of}
use Rattle.ma_lines.proofs.laws.sections_are_read.Goals as goal

pub returns : goal.returns
unfolding sections_of
returns c = record { nothing = refl; two_lines = refl; folds = refl; first_colon = refl; no_value = refl; closes_nothing = refl; names_of_files = refl; joins = refl; tabs = refl; any_comment = refl }
