-- Words of a time that is due or none.
use Rattle.std.specs.Prelude.{◌≡◌, ℕ, Bool, true, false, ◌||◌}
use Rattle.std.specs.Prelude.{Option, Some, None, ℤ, pos}
use Rattle.atomic_face.specs.Words.{is_none_word, is_time_word, no_time, word_of}

-- the number of a time, or of none
abbrev pub word_or_none : Option ℕ → ℤ
word_or_none None = no_time
word_or_none (Some t) = pos t

-- what words are read as: with something they pass the test and are its words, with nothing they
-- fail the test
abbrev pub IsReadAs : {A W : Type 0} → (W → Bool) → (A → W) → W → Option A → Type 0
IsReadAs is_right word_of w (Some x) = (is_right w ≡ true) × (word_of x ≡ w)
IsReadAs is_right word_of w None = is_right w ≡ false

-- the word of a time, or of none
abbrev pub is_due_word : ℤ → Bool
is_due_word w = is_time_word w || is_none_word w
