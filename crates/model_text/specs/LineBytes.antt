-- Bytes at the limits of what a line may hold: before it, in it and behind it.
use Rattle.std.specs.Prelude.{ℕ, List, [], ◌∷◌, ◌++◌, codes}
use Rattle.quantity.specs.Bytes.{Bytes}
use Rattle.model_text.specs.declared.kind.Kind.TheVariants.{BadLine, MissingKey, BadValue}
use Rattle.model_text.specs.declared.kind.Kind.TheVariants.{ComponentCycle}
use Rattle.model_text.specs.RefusalExamples.{refuses}

-- top with a line that does nothing
abbrev pub in_top : Bytes → List Bytes
in_top line = codes "[top]" ∷ line ∷ []

abbrev pub before : ℕ → List Bytes
before byte = in_top (byte ∷ codes "k : v")

abbrev pub inside : ℕ → List Bytes
inside byte = in_top (codes "k : v" ++ byte ∷ codes "v")

abbrev pub behind : ℕ → List Bytes
behind byte = in_top (codes "k : v" ++ byte ∷ [])

-- where the line may stand, nothing is refused but that top has no component
pub record BytesAreLimited : Type 0 where
  pub before_31 : refuses (before 31) 2 BadLine
  pub inside_31 : refuses (inside 31) 2 BadLine
  pub behind_31 : refuses (behind 31) 2 BadLine
  pub before_32 : refuses (before 32) 1 MissingKey
  pub inside_32 : refuses (inside 32) 1 MissingKey
  pub behind_32 : refuses (behind 32) 1 MissingKey
  pub before_126 : refuses (before 126) 1 MissingKey
  pub inside_126 : refuses (inside 126) 1 MissingKey
  pub behind_126 : refuses (behind 126) 1 MissingKey
  pub before_127 : refuses (before 127) 2 BadLine
  pub inside_127 : refuses (inside 127) 2 BadLine
  pub behind_127 : refuses (behind 127) 2 BadLine
  -- at the ends of a line a space is dropped, and 126 is a byte like others
  pub dropped : refuses (in_top (32 ∷ codes "components : top" ++ 32 ∷ [])) 2 ComponentCycle
  pub kept_before : refuses (in_top (126 ∷ codes "components : top")) 1 MissingKey
  pub kept_behind : refuses (in_top (codes "components : top" ++ 126 ∷ [])) 2 BadValue
