-- The letters of the log's lines: which there are, how they are written, their order, and what
-- their lines tell.
use Rattle.std.specs.Prelude.{ℕ, Bool, true, false, ◌==◌, Option, List, [], ◌∷◌, map}
use Rattle.std.specs.List.{find, filter, list_any}
use Rattle.text_forms.specs.declared.letter.Letter.{Letter}
use Rattle.text_forms.specs.declared.letter.Letter.TheVariants.{Y, N, X, S}
use Rattle.text_forms.specs.declared.letter.Tells.{Tells}
use Rattle.text_forms.specs.declared.letter.Tells.TheVariants.{Given, Moved}

-- all letters, in the order in which the lines of a cycle stand
abbrev pub all_letters : List Letter
all_letters = Y ∷ N ∷ X ∷ S ∷ []

-- the byte that a letter is written as
abbrev pub letter_byte : Letter → ℕ
letter_byte Y = 89
letter_byte N = 78
letter_byte X = 88
letter_byte S = 83

-- what the lines of a letter tell: a value at a port, of cells alone or of all leaves, or that a
-- leaf moved
abbrev pub told_by : Letter → Tells
told_by Y = Given false
told_by N = Given true
told_by X = Given false
told_by S = Moved

-- the bytes of all letters
abbrev pub letter_bytes : List ℕ
letter_bytes = map letter_byte all_letters

-- the bytes of the letters that pass a test
abbrev pub bytes_where : (Letter → Bool) → List ℕ
bytes_where chosen = map letter_byte (filter chosen all_letters)

-- the letter that is written so, if one is
abbrev pub letter_named : ℕ → Option Letter
letter_named c = find (λ letter. letter_byte letter == c) all_letters

-- whether a letter is among these bytes
abbrev pub has_letter : List ℕ → Letter → Bool
has_letter bytes letter = list_any (λ c. c == letter_byte letter) bytes
