-- Private: the text of a line, part by part from the left.
use Rattle.std.specs.Prelude.{◌≡◌, ℕ, ◌<◌, Bool, true, Option, Some, None, ◌∷◌, ◌++◌, codes, decimal}
use Rattle.quantity.specs.declared.value.Value.{Value}
use Rattle.quantity.specs.Bytes.{Bytes}
use Rattle.quantity.specs.Times.{time_text}
use Rattle.text_forms.specs.declared.letter.Letter.{Letter}
use Rattle.text_forms.specs.LogLine.{LeafName, LogLine, is_line, is_value, leaf_name_text, letter_text, line_text}

-- a part, the stroke behind it, and what follows
abbrev pub stroke : Bytes → Bytes → Bytes
stroke part rest = part ++ 32 ∷ 47 ∷ 32 ∷ rest

-- letter, time and leaf of a line, and what follows
abbrev pub front_with_rest : Letter → ℕ → LeafName → Bytes → Bytes
front_with_rest letter time leaf rest =
    stroke (letter_text letter) (stroke (time_text time) (stroke (leaf_name_text leaf) rest))

-- the text is that of a line
pub record IsLineText (text : Bytes) (line : LogLine) : Type 0 where
  pub text_is : text ≡ line_text line
  pub is : is_line line ≡ true

-- two coordinates, the end of a place and a stroke, and what follows
pub record IsPlaceInFront (text : Bytes) (row column : ℕ) (rest : Bytes) : Type 0 where
  pub row_short : row < 10000
  pub column_short : column < 10000
  pub text_is : text ≡ decimal row ++ 44 ∷ (decimal column ++ stroke (codes ")") rest)

-- a value that may stand in a line, or none
abbrev pub is_state_value : Option Value → Bool
is_state_value None = true
is_state_value (Some v) = is_value v
