-- What the last line of a made model counts.
use Rattle.std.specs.Prelude.{◌≡◌, ℕ, ◌+◌, Bool, false, Option, List, [], ◌∷◌, length, replicate, slice_set}
use Rattle.std.specs.Option.{option_map}
use Rattle.quantity.specs.Arithmetic.{same_value}
use Rattle.rule_tree.specs.Meaning.{whole}
use Rattle.run_model.specs.Run.{PortRecord, Cycle}
use Rattle.text_forms.specs.declared.records.Records.{Records}
use Rattle.text_forms.specs.Held.{Holds}

-- Y records, S records, and for each leaf whether the last value that it gave at its port `out` is
-- 1
pub record Counts : Type 0 where
  pub y : ℕ
  pub s : ℕ
  pub ones : List Bool

-- before the first cycle of a model with so many leaves
abbrev pub no_counts : ℕ → Counts
no_counts leaves = record { y = 0; s = 0; ones = replicate leaves false }

-- the marks, after these records
abbrev pub ones_after : List Bool → List PortRecord → List Bool
ones_after ones [] = ones
ones_after ones (r ∷ rs) = ones_after (slice_set ones r.leaf (same_value r.value (whole 1))) rs

-- the counts after a cycle
abbrev pub counts_after : Cycle → Counts → Counts
counts_after c k =
    record { y = k.y + length c.y; s = k.s + length c.s; ones = ones_after k.ones c.y }

-- after some cycles
abbrev pub counts_of : List Cycle → Counts → Counts
counts_of [] k = k
counts_of (c ∷ cs) k = counts_of cs (counts_after c k)

-- where it is counted, a cycle with these records is
abbrev pub CountsHeld : Records → Option Counts → Option Counts → Type 0
CountsHeld records old new =
    (c : Cycle) → Holds records c → new ≡ option_map (counts_after c) old
