-- The entries of leaves that wait, in order.
use Rattle.std.specs.Prelude.{◌≡◌, ℕ, ◌+◌, ◌*◌, ◌<◌, ◌≤◌, Option, Some, None, List, [], ◌∷◌, length, Vec}
use Rattle.std.specs.List.{sum_by}
use Rattle.std.specs.List.Sorted.{IsNonDecreasingBy}
use Rattle.std.specs.Vec.{vec_capacity}
use Rattle.std.specs.declared.alloc.Global.{Global}
use Rattle.time_queue.specs.declared.entry.Entry.{Entry}

-- entries are ordered by their times, and those of one time by their leaves
abbrev pub rank : Entry → ℕ
rank e = e.at * 4294967296 + e.leaf

-- the sum of what f gives at each leaf that waits, from leaf k on
abbrev pub total : (ℕ → ℕ → ℕ) → ℕ → List (Option ℕ) → ℕ
total f k [] = 0
total f k (None ∷ ts) = total f (k + 1) ts
total f k (Some t ∷ ts) = f t k + total f (k + 1) ts

-- the entries are those of the leaves that wait, each once
abbrev pub AreEntered : List (Option ℕ) → List Entry → Type 0
AreEntered times entries = (f : ℕ → ℕ → ℕ) → sum_by (λ e. f e.at e.leaf) entries ≡ total f 0 times

-- they are ordered, and there is room for one of each leaf
pub record IsInOrder (times : Vec (Option ℕ) Global) (entries : Vec Entry Global) : Type 0 where
  pub few : length times.items < 4294967296
  pub entered : AreEntered times.items entries.items
  pub ordered : IsNonDecreasingBy rank entries.items
  pub room : length times.items ≤ vec_capacity entries
