-- The numbers of a table's settings, in the order of the classes' table of settings.
use Rattle.std.specs.Prelude.{ℕ, ◌<◌, ◌≤◌, List, [], ◌∷◌, ◌++◌, Option, Some, None, length, All, IfSome, ℤ, pos}
use Rattle.std.specs.List.{flat_map}
use Rattle.quantity.specs.declared.bounds.TheConstants.{MAX_DELAY}
use Rattle.atomic_face.specs.Words.{no_time, word_of}
use Rattle.atomic_face.specs.TableSettings.{any_word}
use Rattle.state_tables.specs.declared.settings.Shown.{Shown}
use Rattle.state_tables.specs.declared.settings.Shown.TheVariants as shown
use Rattle.state_tables.specs.declared.settings.Wanted.{Wanted}
use Rattle.state_tables.specs.declared.settings.Wanted.TheVariants as wanted
use Rattle.state_tables.specs.declared.settings.Hold.{Hold}
use Rattle.state_tables.specs.declared.settings.Take.{Take}
use Rattle.state_tables.specs.declared.settings.TableSettings.{TableSettings}

-- the word of the value that a hold gives
abbrev pub shown_word : Shown → ℤ
shown_word (shown.Value v) = word_of v
shown_word shown.Last = any_word

-- the word of the value that a take wants
abbrev pub wanted_word : Wanted → ℤ
wanted_word (wanted.Value v) = word_of v
wanted_word wanted.Any = any_word

-- a time, the value that is given, and the state that follows
abbrev pub hold_words : Option Hold → List ℤ
hold_words None = no_time ∷ pos 0 ∷ pos 0 ∷ []
hold_words (Some h) = pos h.time ∷ shown_word h.shown ∷ pos h.next ∷ []

-- a state, a port, the value that is wanted there, and the state that follows
abbrev pub take_words : Take → List ℤ
take_words t = pos t.state ∷ pos t.port.0 ∷ wanted_word t.wanted ∷ pos t.next ∷ []

-- the words of settings
abbrev pub words_of : TableSettings → List ℤ
words_of s =
    pos (length s.holds.items) ∷ pos s.initial
    ∷ (flat_map hold_words s.holds.items ++ flat_map take_words s.takes.items)

-- a state that follows is one of so many, and its time can be waited for
abbrev pub IsHoldOf : ℕ → Hold → Type 0
IsHoldOf states h = (h.time ≤ MAX_DELAY) × (h.next < states)

-- a take between states that are there
abbrev pub IsTakeOf : ℕ → Take → Type 0
IsTakeOf states t = (t.state < states) × (t.next < states)

-- 1 to 64 states, and all that is named is among them
pub record AreSettings (s : TableSettings) : Type 0 where
  pub some : 1 ≤ length s.holds.items
  pub most : length s.holds.items ≤ 64
  pub initial : s.initial < length s.holds.items
  pub holds : All (λ h. IfSome h (IsHoldOf (length s.holds.items))) s.holds.items
  pub takes : All (IsTakeOf (length s.holds.items)) s.takes.items
