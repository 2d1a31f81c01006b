-- The tables of a model.
use Rattle.std.specs.Prelude.{◌≡◌, ℕ, Option, Some, None, List, map, length, slice_get}
use Rattle.model_tree.specs.Tree.{Tree, Group, groups}
use Rattle.tree_tables.specs.Stations.{station_in, stations}
use Rattle.tree_mail.specs.declared.tables.GroupSpace.{GroupSpace}
use Rattle.tree_mail.specs.declared.tables.Tables.{Tables}

-- a group's space and the offsets of its cells
abbrev pub IsSpaceOf : Option Group → GroupSpace → Type 0
IsSpaceOf None s = ⊥
IsSpaceOf (Some g) s = (s.grid ≡ g.space) × (s.offsets.items ≡ g.offsets)

-- a space for each group
pub record AreSpacesOf (gs : List Group) (spaces : List GroupSpace) : Type 0 where
  pub long : length spaces ≡ length gs
  pub each : (n : ℕ) (s : GroupSpace) → slice_get spaces n ≡ Some s → IsSpaceOf (slice_get gs n) s

-- the tables are those of the model
pub record AreTables (tree : Tree) (tables : Tables) : Type 0 where
  pub entries : map station_in tables.entries.items ≡ stations tree
  pub count : tables.count ≡ length tables.entries.items
  pub spaces : AreSpacesOf (groups tree) tables.spaces.items
