-- What a seat says of a leaf, under these settings and in a tree with these groups.
use Rattle.std.specs.Prelude.{◌≡◌, ℕ, ◌<◌, Some, List, ℤ, slice_get}
use Rattle.cell_grid.specs.Space.{cell_count}
use Rattle.model_leaves.specs.declared.table.Model.{Model}
use Rattle.model_tree.specs.Tree.{Group, Leaf, atomic_leaf, cell_leaf, leaves, groups}
use Rattle.model_tree.specs.Pull.{class_ports, cell_ports}
use Rattle.model_leaves.specs.Models.{tree_of}
use Rattle.model_leaves.specs.Table.{Seat, box_seat, cell_seat}

-- what the table tells of a leaf is what the tree has
abbrev pub Told : (ℕ → List ℤ) → List Group → Seat → Leaf → Type 0
Told settings gs (box_seat name box ins) (atomic_leaf n class words) =
    (name ≡ n) × (ins ≡ class_ports class) × (words ≡ settings box.0)
Told settings gs (box_seat name box ins) (cell_leaf g first n) = ⊥
Told settings gs (cell_seat name space number cell ports ins) (atomic_leaf n class words) = ⊥
Told settings gs (cell_seat name space number cell ports ins) (cell_leaf g first n) =
    record {
      name : name ≡ g.name;
      space : space ≡ g.space;
      group : slice_get gs number ≡ Some g;
      cell : cell ≡ n;
      inside : n < cell_count g.space;
      ports : ports ≡ g.ports;
      ins : ins ≡ cell_ports g n;
    }

-- it says so of a leaf of the model, for every settings
abbrev pub TellsOf : Model → ℕ → Seat → Type 0
TellsOf m leaf s =
    (settings : ℕ → List ℤ) → (l : Leaf) → slice_get (leaves (tree_of m settings)) leaf ≡ Some l
    → Told settings (groups (tree_of m settings)) s l
