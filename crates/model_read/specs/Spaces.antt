-- Groups with their spaces.
use Rattle.std.specs.Prelude.{List, map}
use Rattle.cell_grid.specs.Space.{Space}
use Rattle.ma_lines.specs.Sections.{Section}
use Rattle.ma_lines.specs.InCode.{section_of}
use Rattle.model_text.specs.Spaces.{space_of}
use Rattle.model_walk.specs.declared.placed.PlacedGroup.{PlacedGroup}
use Rattle.model_read.specs.declared.group_space.GroupSpace.{GroupSpace}

-- a group's section and its space, as they are kept
abbrev pub kept_space : GroupSpace → Section × Space
kept_space g = (section_of g.section.now, g.grid)

-- a section, and the space that it says
abbrev pub said_space : Section → Section × Space
said_space s = (s, space_of s)

-- the same of a group as its section was read
abbrev pub placed_space : PlacedGroup → Section × Space
placed_space g = (section_of g.section.now, g.grid)

-- the section of a group
abbrev pub section_at : GroupSpace → Section
section_at g = section_of g.section.now

-- the sections of groups
abbrev pub sections_in : List GroupSpace → List Section
sections_in gs = map section_at gs
