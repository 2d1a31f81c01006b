-- What a table means.
use Rattle.std.specs.Prelude.{List, [], ◌∷◌, ℤ, pos}
use Rattle.atomic_face.specs.declared.class.Class.TheVariants.{Table}
use Rattle.atomic_face.specs.Words.{word_of}
use Rattle.atomic_face.specs.DueWords.{word_or_none}
use Rattle.atomic_face.specs.Held.{Held}
use Rattle.state_tables.specs.declared.moves.Standing.{Standing}
use Rattle.state_tables.specs.declared.table.TableModel.{TableModel}
use Rattle.state_tables.specs.Settings.{words_of}

-- the words of a state
abbrev pub state_words : Standing → List ℤ
state_words s = pos s.state ∷ word_or_none s.due ∷ word_of s.last ∷ []

-- a table in code as a box of the definitions
abbrev pub held_table : TableModel → Held
held_table t = record { kind = Table; settings = words_of t.settings; state = state_words t.at }
