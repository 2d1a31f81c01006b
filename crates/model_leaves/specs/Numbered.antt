-- Paths by their numbers: where they begin and end, and which leaves they lead to.
use Rattle.std.specs.Prelude.{ℕ, ◌==◌, ◌<◌, Bool, false, Option, Some, None, List, length, slice_index_or, ⊤}
use Rattle.std.specs.List.{filter, filter_map, range_with_len}
use Rattle.model_leaves.specs.declared.path.Source.{Source}
use Rattle.model_leaves.specs.declared.path.Source.TheVariants.{Leaf, TopIn}
use Rattle.model_leaves.specs.declared.path.TargetPort.{TargetPort}
use Rattle.model_leaves.specs.declared.path.TargetPort.TheVariants as target
use Rattle.model_leaves.specs.declared.path.Path.{Path}
use Rattle.model_tree.specs.Tree.{Word}
use Rattle.model_tree.specs.Pull as P
use Rattle.model_leaves.specs.LeafTexts.{name_at}

-- ---- where they begin

-- both are the same source
abbrev pub same_source : Source → Source → Bool
same_source (Leaf k) (Leaf l) = k == l
same_source (Leaf k) (TopIn l) = false
same_source (TopIn k) (Leaf l) = false
same_source (TopIn k) (TopIn l) = k == l

-- an input of top by its name
abbrev pub source_by_name : List Word → Source → P.Source
source_by_name ins (Leaf n) = P.leaf_source n
source_by_name ins (TopIn k) = P.top_source (name_at ins k)

-- an input that there is
abbrev pub IsThere : List Word → Source → Type 0
IsThere ins (Leaf l) = ⊤
IsThere ins (TopIn k) = k < length ins

-- ---- where they end

-- a port that one of so many leaves has, or an output of top
abbrev pub IsPortOf : ℕ → (ℕ → ℕ) → TargetPort → Type 0
IsPortOf n ports (target.Leaf l port) = (l < n) × (port.0 < ports l)
IsPortOf n ports (target.TopOut k) = ⊤

-- the leaf at a port, where it is one of a leaf
abbrev pub leaf_in : TargetPort → Option ℕ
leaf_in (target.Leaf l port) = Some l
leaf_in (target.TopOut k) = None

-- the leaves to which paths lead, path by path
abbrev pub target_leaves : List Path → List ℕ
target_leaves ps = filter_map (λ (p : Path). leaf_in p.to) ps

-- ---- by their numbers

-- the path begins at this source
abbrev pub is_from : Source → Path → Bool
is_from from p = same_source from p.from

-- what stands where there is no path
abbrev pub nowhere : Path
nowhere = record { from = Leaf 0; to = target.TopOut 0 }

-- the path of a number
abbrev pub path_at : List Path → ℕ → Path
path_at ps k = slice_index_or ps k nowhere

-- the numbers of the paths for which a test holds, rising
abbrev pub numbers : (Path → Bool) → List Path → List ℕ
numbers test ps = filter (λ k. test (path_at ps k)) (range_with_len 0 (length ps))
