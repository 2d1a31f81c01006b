-- The next times of the leaves: for each leaf, by its number, the time that it waits for, or none.
use Rattle.std.specs.Prelude.{◌≡◌, ℕ, ◌≤◌, ◌==◌, Bool, false, Option, Some, None, List, [], ◌∷◌, length, map, slice_index_or, if◌then◌else◌}
use Rattle.std.specs.List.{filter, range_with_len}
use Rattle.quantity.specs.Times.{earlier}

-- the time that a leaf waits for
abbrev pub waiting_time : List (Option ℕ) → ℕ → Option ℕ
waiting_time times leaf = slice_index_or times leaf None

-- the least time, if a leaf waits
abbrev pub least_time : List (Option ℕ) → Option ℕ
least_time [] = None
least_time (t ∷ ts) = earlier t (least_time ts)

-- the time is there and is this one
abbrev pub is_due : ℕ → Option ℕ → Bool
is_due at None = false
is_due at (Some t) = t == at

-- the leaves that wait for a time, rising
abbrev pub leaves_at : ℕ → List (Option ℕ) → List ℕ
leaves_at at times =
    filter (λ leaf. is_due at (waiting_time times leaf)) (range_with_len 0 (length times))

-- what is due now is due no more
abbrev pub undue : ℕ → Option ℕ → Option ℕ
undue at t = if is_due at t then None else t

-- the leaves that wait for a time wait no more, and all others stay
abbrev pub without : ℕ → List (Option ℕ) → List (Option ℕ)
without at times = map (undue at) times

-- no leaf waits for an earlier time
abbrev pub NoneBefore : ℕ → List (Option ℕ) → Type 0
NoneBefore at times = (leaf t : ℕ) → waiting_time times leaf ≡ Some t → at ≤ t
