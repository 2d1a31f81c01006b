-- How many ports and variables the cells of groups have.
use Rattle.std.specs.Prelude.{◌≡◌, suc, List, length, map}
use Rattle.model_tree.specs.Tree.{Group, groups}
use Rattle.model_leaves.specs.declared.table.Model.{Model}
use Rattle.model_leaves.specs.Leaves.{OfTree}
use Rattle.state_lines.specs.declared.sizes.CellSize.{CellSize}

-- the port out and the further ports, and the variables
abbrev pub size_of : Group → CellSize
size_of g = record { ports = suc (length g.ports); variables = length g.variables }

-- one of each group of the model
abbrev pub AreSizesOf : Model → List CellSize → Type 0
AreSizesOf m sizes = OfTree m (λ t. sizes ≡ map size_of (groups t))
