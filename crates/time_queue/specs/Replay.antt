-- Moves carried out one after another.
use Rattle.std.specs.Prelude.{◌≡◌, ℕ, ◌<◌, ◌≤◌, Option, Some, None, List, [], ◌∷◌, length, take, slice_set}
use Rattle.time_queue.specs.declared.moves.Move.{Move}
use Rattle.time_queue.specs.declared.moves.Move.TheVariants.{Set, Clear, TakeAll}
use Rattle.time_queue.specs.Waiting.{least_time, leaves_at, without}

-- the leaf is one of so many
abbrev pub IsMoveOf : ℕ → Move → Type 0
IsMoveOf n (Set leaf at) = leaf < n
IsMoveOf n (Clear leaf) = leaf < n
IsMoveOf n (TakeAll at) = Unit {0}

-- the times after a move
abbrev pub times_after_move : Move → List (Option ℕ) → List (Option ℕ)
times_after_move (Set leaf at) times = slice_set times leaf (Some at)
times_after_move (Clear leaf) times = slice_set times leaf None
times_after_move (TakeAll at) times = without at times

-- the leaves that a move takes
abbrev pub taken_by : Move → List (Option ℕ) → List ℕ
taken_by (Set leaf at) times = []
taken_by (Clear leaf) times = []
taken_by (TakeAll at) times = leaves_at at times

-- the times after all moves
abbrev pub after : List Move → List (Option ℕ) → List (Option ℕ)
after [] times = times
after (m ∷ ms) times = after ms (times_after_move m times)

-- the first moves are carried out, so many of them, and no others
pub record AreBegun (moves : List Move) (old new : List (Option ℕ)) : Type 0 where
  pub count : ℕ
  pub within : count ≤ length moves
  pub held : new ≡ after (take count moves) old

-- what each move takes, and the least time after it
abbrev pub replies_of : List Move → List (Option ℕ) → List (List ℕ × Option ℕ)
replies_of [] times = []
replies_of (m ∷ ms) times =
    (taken_by m times, least_time (times_after_move m times))
    ∷ replies_of ms (times_after_move m times)
