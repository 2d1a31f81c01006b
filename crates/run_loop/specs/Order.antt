-- The order in which files are written: piece after piece.
use Rattle.std.specs.Prelude.{◌≡◌, List, [], ◌∷◌, ◌++◌}
use Rattle.quantity.specs.Bytes.{Bytes}
use Rattle.answer_model.specs.Headline.{Begins}
use Rattle.run_loop.specs.declared.outputs.Output.{Output}
use Rattle.run_loop.specs.Texts.{Texts, no_texts, both, only}

-- bytes for one of the files
pub record Piece : Type 0 where
  pub file : Output
  pub bytes : Bytes

abbrev pub piece_of : Output → Bytes → Piece
piece_of file bytes = record { file = file; bytes = bytes }

-- one piece alone
abbrev pub one_piece : Output → Bytes → List Piece
one_piece file bytes = piece_of file bytes ∷ []

-- what stands in the files after these pieces
abbrev pub texts_of : List Piece → Texts
texts_of [] = no_texts
texts_of (p ∷ ps) = both (only p.file p.bytes) (texts_of ps)

-- what stands in the files where writing these pieces ended early: those before the last one that
-- was begun are there whole, of that one a beginning, and nothing of those behind it
pub record WritesInOrder (pieces : List Piece) (part : Texts) : Type 0 where
  pub before : List Piece
  pub last : Piece
  pub behind : List Piece
  pub begun : Bytes
  pub pieces_are : pieces ≡ before ++ last ∷ behind
  pub begins : Begins begun last.bytes
  pub texts : part ≡ both (texts_of before) (only last.file begun)
