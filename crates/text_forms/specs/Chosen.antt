-- The letters of the lines that are written.
use Rattle.std.specs.Prelude.{ℕ, Bool, List}
use Rattle.text_forms.specs.declared.letter.Letter.{Letter}
use Rattle.text_forms.specs.declared.letter.Letter.TheVariants.{Y, N, X, S}
use Rattle.text_forms.specs.Letters.{bytes_where}
use Rattle.text_forms.specs.declared.records.Letters.{Letters}

-- whether a letter is chosen
abbrev pub is_chosen : Letters → Letter → Bool
is_chosen l Y = l.y
is_chosen l N = l.n
is_chosen l X = l.x
is_chosen l S = l.s

-- the bytes of the chosen letters
abbrev pub letters_of : Letters → List ℕ
letters_of l = bytes_where (is_chosen l)
