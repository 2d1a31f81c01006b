-- What the table of a model says of its leaves.
use Rattle.std.specs.Prelude.{ℕ, ◌+◌, Option, Some, None, List, [], ◌∷◌, ◌++◌, map, take, drop, nat_le, length, slice_get, if◌then◌else◌}
use Rattle.std.specs.List.{range_with_len}
use Rattle.cell_grid.specs.Space.{Space, cell_count}
use Rattle.atomic_face.specs.declared.stock.BoxNo.{BoxNo}
use Rattle.model_leaves.specs.declared.table.Part.{Part}
use Rattle.model_leaves.specs.declared.table.PartAt.{PartAt}
use Rattle.model_leaves.specs.declared.table.PartAt.TheVariants as at
use Rattle.model_leaves.specs.declared.table.Row.{Row}
use Rattle.model_tree.specs.declared.component.Component.{Component, Row_of-Component, end_of-Component, more_of-Component}
use Rattle.model_tree.specs.declared.component.Component.TheVariants.{Coupled', Cells, Atomic}
use Rattle.model_tree.specs.declared.group.CellGroup.{CellGroup}
use Rattle.model_tree.specs.Tree.{Word}
use Rattle.model_tree.specs.Pull.{class_ports, cell_ports}
use Rattle.model_tree.specs.Stands.{group_of}

-- a leaf as the table has it: with the names of its input ports, and of a cell its group's number
-- and further ports
pub data Seat : Type 0 where
  box_seat : (name : Word) (box : BoxNo) (ins : List Word) → Seat
  cell_seat : (name : Word) (space : Space) (group cell : ℕ) (ports ins : List Word) → Seat

-- ---- from the table

-- a leaf of this part, with its input ports
abbrev pub seat_at : PartAt → Word → ℕ → List Word → Seat
seat_at (at.Atomic box) name cell ins = box_seat name box ins
seat_at (at.Cells group grid ports) name cell ins = cell_seat name grid group cell ports.items ins

-- so many names from a place on, if there are as many
abbrev pub names_at : List Word → ℕ → ℕ → Option (List Word)
names_at names first count =
    if nat_le (first + count) (length names) then Some (take count (drop first names)) else None

-- the same, where the part and the ports are there
abbrev pub seat_in : Option Part → Option (List Word) → ℕ → Option Seat
seat_in None ins cell = None
seat_in (Some p) None cell = None
seat_in (Some p) (Some ins) cell = Some (seat_at p.at p.name cell ins)

-- the leaf of a row of the table
abbrev pub seat_of : List Part → List Word → Row → Option Seat
seat_of parts names r =
    seat_in (slice_get parts r.part) (names_at names r.first_port r.ports) r.cell

-- the leaves of all rows
abbrev pub seats : List Part → List Word → List Row → List (Option Seat)
seats parts names rows = map (seat_of parts names) rows

-- ---- from the tree, with no settings: the groups are counted from a number on

abbrev mutual
  pub groups_in : Component → ℕ
  groups_in (Coupled' name ins outs shape children links) = all_groups_in children
  groups_in (Cells g) = 1
  groups_in (Atomic a) = 0

  pub all_groups_in : {k : _} → Row_of-Component k → ℕ
  all_groups_in end_of-Component = 0
  all_groups_in (more_of-Component c rest) = groups_in c + all_groups_in rest

-- a cell of a group as a leaf
abbrev pub cell_seat_of : CellGroup → ℕ → ℕ → Seat
cell_seat_of g number cell =
    cell_seat g.name g.grid number cell g.ports.items (cell_ports (group_of g) cell)

abbrev mutual
  pub seats_from : Component → ℕ → List Seat
  seats_from (Coupled' name ins outs shape children links) number = all_seats_from children number
  seats_from (Cells g) number = map (cell_seat_of g number) (range_with_len 0 (cell_count g.grid))
  seats_from (Atomic a) number = box_seat a.name a.at (class_ports a.class) ∷ []

  pub all_seats_from : {k : _} → Row_of-Component k → ℕ → List Seat
  all_seats_from end_of-Component number = []
  all_seats_from (more_of-Component c rest) number =
      seats_from c number ++ all_seats_from rest (number + groups_in c)
