-- Private: what a table that is being made shows, whatever is put behind its parts and names later.
use Rattle.std.specs.Prelude.{◌≡◌, ℕ, ◌+◌, Some, List, [], ◌∷◌, ◌++◌, map, slice_get}
use Rattle.std.specs.List.{range_with_len, sum_by}
use Rattle.cell_grid.specs.Space.{cell_count}
use Rattle.model_tree.specs.declared.component.Component.{Component}
use Rattle.model_tree.specs.declared.group.Atomic.{Atomic}
use Rattle.model_tree.specs.declared.group.CellGroup.{CellGroup}
use Rattle.model_leaves.specs.declared.table.Part.{Part}
use Rattle.model_leaves.specs.declared.table.PartAt.{PartAt}
use Rattle.model_leaves.specs.declared.growing.Growing.{Growing}
use Rattle.model_tree.specs.Tree.{Word}
use Rattle.model_tree.specs.Pull.{class_ports, cell_ports}
use Rattle.model_tree.specs.Stands.{group_of}
use Rattle.model_leaves.specs.Table.{Seat, box_seat, cell_seat, seats, seat_at, seats_from, cell_seat_of, groups_in}

-- its rows show these seats
abbrev pub Shows : Growing → List Seat → Type 0
Shows t ss =
    (parts : List Part) (names : List Word)
    → seats (t.parts.items ++ parts) (t.ports.items ++ names) t.rows.items ≡ map Some ss

-- these seats stand behind those that were shown
abbrev pub Grows : Growing → Growing → List Seat → Type 0
Grows old new ss = (before : List Seat) → Shows old before → Shows new (before ++ ss)

-- this holds of the part of this number
abbrev pub AtPart : List Part → ℕ → (Part → Type 0) → Type 0
AtPart parts number P = (p : Part) → slice_get parts number ≡ Some p → P p

-- the seat of an atomic component
abbrev pub box_seat_of : Atomic → Seat
box_seat_of a = box_seat a.name a.at (class_ports a.class)

-- the seats of a group of this number
abbrev pub cell_seats : CellGroup → ℕ → List Seat
cell_seats g number = map (cell_seat_of g number) (range_with_len 0 (cell_count g.grid))

-- the same, as they belong to a part
abbrev pub part_seats : PartAt → Word → CellGroup → List Seat
part_seats at name g =
    map (λ n. seat_at at name n (cell_ports (group_of g) n)) (range_with_len 0 (cell_count g.grid))

-- Only private clauses name this: each cell of a part is seated as one of the group of this number.
abbrev pub IsPartOf : CellGroup → ℕ → Part → Type 0
IsPartOf g number p =
    (n : ℕ) (ins : List Word)
    → seat_at p.at p.name n ins ≡ cell_seat g.name g.grid number n g.ports.items ins

-- the number of groups in some components
abbrev pub groups_in_all : List Component → ℕ
groups_in_all cs = sum_by groups_in cs

-- the seats of some components, one after another
abbrev pub seats_of_all : List Component → ℕ → List Seat
seats_of_all [] number = []
seats_of_all (c ∷ cs) number = seats_from c number ++ seats_of_all cs (number + groups_in c)
