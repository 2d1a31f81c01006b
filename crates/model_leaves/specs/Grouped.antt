-- The groups of a model, lent in a list.
use Rattle.std.specs.Prelude.{◌≡◌, List, map}
use Rattle.std.specs.Borrow.{Bor}
use Rattle.model_tree.specs.declared.group.CellGroup.{CellGroup}
use Rattle.model_leaves.specs.declared.table.Model.{Model}
use Rattle.model_tree.specs.Tree.{Group, groups}
use Rattle.model_tree.specs.Stands.{group_of}
use Rattle.model_leaves.specs.Leaves.{OfTree}

-- what these groups are
abbrev pub groups_shown : List (Bor CellGroup) → List Group
groups_shown gs = map (λ (g : Bor CellGroup). group_of g.now) gs

-- they are those of a model, by their numbers
abbrev pub AreGroupsOf : Model → List (Bor CellGroup) → Type 0
AreGroupsOf m gs = OfTree m (λ t. groups_shown gs ≡ groups t)
