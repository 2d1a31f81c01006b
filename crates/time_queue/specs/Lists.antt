-- Private: lists of leaves that wait for one time.
use Rattle.std.specs.Prelude.{◌≡◌, ◌≢◌, ℕ, ◌<◌, Option, Some, None, List, length, slice_index_or}
use Rattle.time_queue.specs.declared.lists.Lists.{Lists}

-- the leaf that a link names
abbrev pub link_of : List (Option ℕ) → ℕ → Option ℕ
link_of links leaf = slice_index_or links leaf None

-- the time of a leaf that stands first, and none where one stands before it
abbrev pub time_of_first : Option ℕ → Option ℕ → Option ℕ
time_of_first None time = time
time_of_first (Some before) time = None

-- both wait for one time
pub record WaitAlike (time : ℕ → Option ℕ) (x y : ℕ) : Type 0 where
  pub at : ℕ
  pub one : time x ≡ Some at
  pub other : time y ≡ Some at

-- the leaf stands first, but not in the heap
pub record IsLoose (time first before : ℕ → Option ℕ) (x : ℕ) : Type 0 where
  pub unseen : first x ≡ None
  pub ahead : before x ≡ None
  pub at : ℕ
  pub waits : time x ≡ Some at

-- what each leaf waits for, what the heap has of it, and what stands before and after it; one leaf
-- may be loose
pub record Links (time first before after : ℕ → Option ℕ) (loose : Option ℕ) : Type 0 where
  pub rank : ℕ → ℕ
  pub firsts : (x : ℕ) → loose ≢ Some x → first x ≡ time_of_first (before x) (time x)
  pub loose_one : (x : ℕ) → loose ≡ Some x → IsLoose time first before x
  pub forth : (x y : ℕ) → after x ≡ Some y → (before y ≡ Some x) × WaitAlike time x y
  pub back : (x y : ℕ) → before y ≡ Some x → (after x ≡ Some y) × (rank x < rank y)

-- the same of the lists
pub record AreLinked (l : Lists) (loose : Option ℕ) : Type 0 where
  pub few : length l.times.items < 4294967296
  pub firsts : length l.firsts ≡ length l.times.items
  pub before : length l.before.items ≡ length l.times.items
  pub after : length l.after.items ≡ length l.times.items
  pub links : Links (link_of l.times.items) (link_of l.firsts) (link_of l.before.items)
      (link_of l.after.items) loose
