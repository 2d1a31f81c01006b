-- Private: the numbers of paths by where they begin.
use Rattle.std.specs.Prelude.{◌≡◌, ◌||◌, ℕ, Bool, List}
use Rattle.std.specs.List.{list_any}
use Rattle.quantity.specs.declared.value.Value.{Value}
use Rattle.model_leaves.specs.declared.path.Path.{Path}
use Rattle.model_leaves.specs.declared.path.Source.TheVariants.{Leaf, TopIn}
use Rattle.run_model.specs.Run.{PortRecord}
use Rattle.text_forms.specs.declared.records.YRecord.{YRecord}
use Rattle.quantity.specs.Bytes.{has_number}
use Rattle.cycle_steps.specs.Untimed.{y_records}
use Rattle.cycle_steps.specs.Routed.{is_from, numbers}

-- a number is among those of the paths from a Y record's leaf
abbrev pub leads_from_leaf : List Path → ℕ → PortRecord → Bool
leads_from_leaf ps k r = has_number (numbers (is_from (Leaf r.leaf)) ps) k

-- and from an input
abbrev pub leads_from_top : List Path → ℕ → ℕ × Value → Bool
leads_from_top ps k e = has_number (numbers (is_from (TopIn e.0)) ps) k

-- among those of the paths from some of these records' leaves
abbrev pub from_leaves : List Path → List YRecord → ℕ → Bool
from_leaves ps y k = list_any (leads_from_leaf ps k) (y_records y)

-- and from some of these inputs
abbrev pub from_tops : List Path → List (ℕ × Value) → ℕ → Bool
from_tops ps inputs k = list_any (leads_from_top ps k) inputs

-- such numbers are put to the others
abbrev pub AddsNumbers : (ℕ → Bool) → List ℕ → List ℕ → Type 0
AddsNumbers more old new = (k : ℕ) → has_number new k ≡ (has_number old k || more k)

-- both kinds are
abbrev pub AddsBoth : (ℕ → Bool) → (ℕ → Bool) → List ℕ → List ℕ → Type 0
AddsBoth some others old new =
    (k : ℕ) → has_number new k ≡ ((has_number old k || some k) || others k)
