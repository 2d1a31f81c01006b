-- The space that the ends in a section may name cells of.
use Rattle.std.specs.Prelude.{◌≡◌, true, false, Option, Some, None}
use Rattle.std.specs.Borrow.{Bor}
use Rattle.cell_grid.specs.Space.{Space}
use Rattle.ma_lines.specs.Sections.{Section}
use Rattle.model_text.specs.Walk.{is_group}
use Rattle.model_text.specs.Spaces.{space_of}

-- that of a group, and none of a coupled component
abbrev pub IsSpaceOf : Section → Option (Bor Space) → Type 0
IsSpaceOf s None = is_group s ≡ false
IsSpaceOf s (Some space) = (is_group s ≡ true) × (space.now ≡ space_of s)
