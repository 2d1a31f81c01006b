-- When leaves are due, by their numbers.
use Rattle.std.specs.Prelude.{ℕ, Option, None, List, slice_index_or}

-- when the leaf of a number is due
abbrev pub due_at : List (Option ℕ) → ℕ → Option ℕ
due_at due leaf = slice_index_or due leaf None
