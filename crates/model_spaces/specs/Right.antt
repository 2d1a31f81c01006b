-- Private: groups that can be read, and what is read of them.
use Rattle.std.specs.Prelude.{◌≡◌, List, [], ◌∷◌, map}
use Rattle.quantity.specs.declared.value.Value.{Value}
use Rattle.cell_grid.specs.Watched.{CanHold}
use Rattle.ma_lines.specs.declared.section.Entry.{Entry}
use Rattle.ma_lines.specs.Sections.{Section}
use Rattle.model_text.specs.GroupLaws.{RightSizes, RightNames}
use Rattle.model_text.specs.Spaces.{space_of}
use Rattle.model_walk.specs.declared.placed.PlacedGroup.{PlacedGroup}
use Rattle.model_walk.specs.Placed.{plain_group, placed_of, values_before_files}
use Rattle.model_spaces.specs.declared.groups.Spaces.{Spaces}
use Rattle.model_spaces.specs.declared.parts.Parts.{Parts}
use Rattle.model_spaces.specs.Gathered.{AddsOffsets, ReadsOffsets}
use Rattle.model_spaces.specs.Laid.{AddsRows, ReadsRows}
use Rattle.model_spaces.specs.Ported.{AddsPort, ReadsPorts}
use Rattle.model_spaces.specs.Zoned.{AddsZones, ReadsZones}

-- a space of its sizes can be held, and its keys are right
pub record CanBeRead (s : Section) : Type 0 where
  pub held : CanHold (space_of s).rows (space_of s).columns (space_of s).planes
  pub sizes : RightSizes s
  pub names : RightNames s

-- what is read of these entries of a section
pub record AreParts (s : Section) (es : List Entry) (parts : Parts) : Type 0 where
  pub offsets : ReadsOffsets s es parts.offsets
  pub rows : ReadsRows s es parts.rows
  pub ports : ReadsPorts s es parts.ports
  pub zones : ReadsZones s es parts.zones

-- what an entry adds
pub record AddsEntry (s : Section) (old new : Parts) (e : Entry) : Type 0 where
  pub offsets : AddsOffsets s old.offsets new.offsets (e ∷ [])
  pub rows : AddsRows s old.rows new.rows (e ∷ [])
  pub ports : AddsPort s old.ports new.ports e
  pub zones : AddsZones s old.zones new.zones (e ∷ [])

-- what a section says
pub record SaysGroup (s : Section) (read : PlacedGroup × List Value) : Type 0 where
  pub group : plain_group read.0 ≡ placed_of s
  pub values : read.1 ≡ values_before_files s

-- what these sections say
pub record SaysGroups (ss : List Section) (read : Spaces) : Type 0 where
  pub groups : map plain_group read.groups.items ≡ map placed_of ss
  pub values : read.values.items ≡ map values_before_files ss
