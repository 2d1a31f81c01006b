-- Sets of numbers as bits of words, 64 to a word.
use Rattle.std.specs.Prelude.{◌≡◌, ℕ, ◌+◌, ◌*◌, ◌/◌, ◌%◌, ◌<◌, ◌≤◌, ◌==◌, Bool, true, false, ◌||◌, List, length, map, slice_index}
use Rattle.std.specs.List.{filter, range_with_len}
use Rattle.std.specs.Int.{bit_at}

-- whether a word has the bit
unfoldable pub has_bit : ℕ → ℕ → Bool
has_bit word i = bit_at word i == 1

-- whether words have the bit
unfoldable pub has : List ℕ → ℕ → Bool
has words i = has_bit (slice_index words (i / 64)) (i % 64)

-- those of the `count` numbers from `first` on that pass a test, rising
unfoldable pub those_from : (ℕ → Bool) → ℕ → ℕ → List ℕ
those_from test first count = filter test (range_with_len first count)

-- the numbers of the bits of a word, which is the word `at` of a row
abbrev pub ones_of : ℕ → ℕ → List ℕ
ones_of word at = those_from (λ i. has_bit word (i % 64)) (64 * at) 64

-- for each number below `count`, whether words have its bit
abbrev pub flags_of : List ℕ → ℕ → List Bool
flags_of words count = map (has words) (range_with_len 0 count)

-- one bit is now the one given, and the others are as they were
pub record SetsBit (old new : List ℕ) (at : ℕ) (bit : Bool) : Type 0 where
  pub there : has new at ≡ bit
  pub elsewhere : (i : ℕ) → (i ≡ at → ⊥) → has new i ≡ has old i

-- the `count` bits from `first` on are now 0, and the others are as they were
pub record Clears (old new : List ℕ) (first count : ℕ) : Type 0 where
  pub gone : (i : ℕ) → first ≤ i → i < first + count → has new i ≡ false
  pub below : (i : ℕ) → i < first → has new i ≡ has old i
  pub above : (i : ℕ) → first + count ≤ i → has new i ≡ has old i

-- no bit is gone, and each that came is among the others
pub record Grows (old more new : List ℕ) : Type 0 where
  pub kept : (i : ℕ) → has old i ≡ true → has new i ≡ true
  pub only : (i : ℕ) → has old i ≡ false → has new i ≡ true → has more i ≡ true

-- the bits of both
abbrev pub Unites : List ℕ → List ℕ → List ℕ → Type 0
Unites old more new = (i : ℕ) → has new i ≡ (has old i || has more i)

-- a word that isn't 0 has lost its lowest bit
pub record TakesLowest (old new bit : ℕ) : Type 0 where
  pub within : bit < 64
  pub there : has_bit old bit ≡ true
  pub lowest : (i : ℕ) → i < bit → has_bit old i ≡ false
  pub gone : has_bit new bit ≡ false
  pub elsewhere : (i : ℕ) → i < 64 → (i ≡ bit → ⊥) → has_bit new i ≡ has_bit old i
  pub less : new < old

-- words for the leaves, and a mark for each word that has a leaf
pub record AreMarked (count : ℕ) (words marks : List ℕ) : Type 0 where
  pub whole : length words ≡ 64 * length marks
  pub few : 64 * length words ≤ 4294967296
  pub room : count ≤ 64 * length words
  pub blocks : length marks ≡ count / 4096 + 1
  pub within : (i : ℕ) → has words i ≡ true → i < count
  pub marked : (i : ℕ) → has words i ≡ true → has marks (i / 64) ≡ true
