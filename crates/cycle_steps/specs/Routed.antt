-- Paths by their numbers: which of them bring something, and what they bring to leaves and to
-- outputs of top.
use Rattle.std.specs.Prelude.{ℕ, ◌==◌, Bool, ◌||◌, List, [], map}
use Rattle.std.specs.List.{list_any, filter, flat_map}
use Rattle.quantity.specs.declared.value.Value.{Value}
use Rattle.model_leaves.specs.declared.path.Path.{Path}
use Rattle.model_leaves.specs.declared.path.Source.{Source}
use Rattle.model_leaves.specs.declared.path.Source.TheVariants.{Leaf, TopIn}
use Rattle.model_leaves.specs.declared.path.TargetPort.{TargetPort}
use Rattle.model_leaves.specs.declared.path.TargetPort.TheVariants as target
use Rattle.run_model.specs.Run.{PortRecord, OutRecord}
pub use Rattle.model_leaves.specs.Numbered.{is_from, nowhere, path_at, numbers}
use Rattle.sparse_cycle.specs.Feed.{values_of_leaf}

-- ---- what they bring

-- the values at an input of top
abbrev pub values_of_input : List (ℕ × Value) → ℕ → List Value
values_of_input inputs k =
    map (λ (e : ℕ × Value). e.1) (filter (λ (e : ℕ × Value). e.0 == k) inputs)

-- what these Y records and inputs put at a source
abbrev pub values_at : List PortRecord → List (ℕ × Value) → Source → List Value
values_at y inputs (Leaf l) = values_of_leaf y l
values_at y inputs (TopIn k) = values_of_input inputs k

-- a Y record or an input stands at the path's source
abbrev pub reaches : List PortRecord → List (ℕ × Value) → Path → Bool
reaches y inputs p =
    list_any (λ (r : PortRecord). is_from (Leaf r.leaf) p) y
    || list_any (λ (e : ℕ × Value). is_from (TopIn e.0) p) inputs

-- values that come to a port of a leaf
abbrev pub fed_to : TargetPort → List Value → List PortRecord
fed_to (target.Leaf l port) vs = map (λ v. record { leaf = l; port = port.0; value = v }) vs
fed_to (target.TopOut k) vs = []

-- values that come to an output of top
abbrev pub out_to : TargetPort → List Value → List OutRecord
out_to (target.Leaf l port) vs = []
out_to (target.TopOut k) vs = map (λ v. record { port = k; value = v }) vs

-- what the paths of these numbers bring to leaves
abbrev pub fed_in : (Source → List Value) → List Path → List ℕ → List PortRecord
fed_in from ps ks = flat_map (λ k. fed_to (path_at ps k).to (from (path_at ps k).from)) ks

-- what they bring to outputs of top
abbrev pub out_in : (Source → List Value) → List Path → List ℕ → List OutRecord
out_in from ps ks = flat_map (λ k. out_to (path_at ps k).to (from (path_at ps k).from)) ks
