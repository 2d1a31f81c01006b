-- What is left while the leaves of one time are taken.
use Rattle.std.specs.Prelude.{◌≡◌, ℕ, ◌+◌, false, Option, List, length}
use Rattle.std.specs.List.{sum_by}
use Rattle.time_queue.specs.Waiting.{is_due, leaves_at, waiting_time, without, NoneBefore}

-- no leaf waits for this time
abbrev pub NoneAt : ℕ → List (Option ℕ) → Type 0
NoneAt at ts = (leaf : ℕ) → is_due at (waiting_time ts leaf) ≡ false

-- leaves that waited for this time are moved from the times to the list, and nothing else changed
pub record TakesMore (at : ℕ) (ts ts' : List (Option ℕ)) (xs xs' : List ℕ) : Type 0 where
  pub counted : (f : ℕ → ℕ)
      → sum_by f xs' + sum_by f (leaves_at at ts') ≡ sum_by f xs + sum_by f (leaves_at at ts)
  pub stays : without at ts' ≡ without at ts
  pub same : length ts' ≡ length ts
  pub early : NoneBefore at ts → NoneBefore at ts'
