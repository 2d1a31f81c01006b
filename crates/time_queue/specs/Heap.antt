-- A heap of leaves, and the place of each leaf in it.
use Rattle.std.specs.Prelude.{◌≡◌, ℕ, ◌+◌, ◌*◌, ◌<◌, ◌≤◌, ◌≢◌, Option, Some, None, List, length, slice_index, unwrap_or, is_some, true}
use Rattle.time_queue.specs.Waiting.{waiting_time}

-- each leaf stands at its place, and each place is that of the leaf there
pub record IsInverse (order places : List ℕ) : Type 0 where
  pub same : length places ≡ length order
  pub place_of : (p : ℕ) → p < length order
      → (slice_index order p < length places) × (slice_index places (slice_index order p) ≡ p)
  pub leaf_at : (l : ℕ) → l < length places
      → (slice_index places l < length order) × (slice_index order (slice_index places l) ≡ l)

-- the time at a place, or 0 where the leaf there waits for none
abbrev pub time_at : List (Option ℕ) → List ℕ → ℕ → ℕ
time_at times order p = unwrap_or (waiting_time times (slice_index order p)) 0

-- of the first n places, none is before the one above it: below place p are 2 p + 1 and 2 p + 2
abbrev pub IsHeap : ℕ → (ℕ → ℕ) → Type 0
IsHeap n at = (p k : ℕ) → 2 * p < k → k ≤ 2 * p + 2 → k < n → at p ≤ at k

-- the same but at place i, with what stands above and below that place in order
pub record IsHeapBut (n : ℕ) (at : ℕ → ℕ) (i : ℕ) : Type 0 where
  pub elsewhere : (p k : ℕ) → 2 * p < k → k ≤ 2 * p + 2 → k < n → p ≢ i → k ≢ i → at p ≤ at k
  pub across : (p k : ℕ) → 2 * p < i → i ≤ 2 * p + 2 → 2 * i < k → k ≤ 2 * i + 2 → k < n
      → at p ≤ at k

-- place i isn't before the one above it
abbrev pub IsBelow : (ℕ → ℕ) → ℕ → Type 0
IsBelow at i = (p : ℕ) → 2 * p < i → i ≤ 2 * p + 2 → at p ≤ at i

-- the leaves at the first n places wait, and no others
pub record AreFirst (times : List (Option ℕ)) (order : List ℕ) (n : ℕ) : Type 0 where
  pub wait : (p : ℕ) → p < n → is_some (waiting_time times (slice_index order p)) ≡ true
  pub rest : (p : ℕ) → n ≤ p → p < length order → waiting_time times (slice_index order p) ≡ None

-- the leaves that wait stand first, as a heap
pub record IsRanked (times : List (Option ℕ)) (order : List ℕ) (n : ℕ) : Type 0 where
  pub few : length times < 4294967296
  pub same : length order ≡ length times
  pub within : n ≤ length times
  pub first : AreFirst times order n
  pub heap : IsHeap n (time_at times order)

-- different leaves that wait for this time
pub record AreAt (at : ℕ) (times : List (Option ℕ)) (leaves : List ℕ) : Type 0 where
  pub wait : (i : ℕ) → i < length leaves → waiting_time times (slice_index leaves i) ≡ Some at
  pub apart : (i j : ℕ) → i < j → j < length leaves → slice_index leaves i ≢ slice_index leaves j
