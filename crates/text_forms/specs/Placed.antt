-- Texts that are written into a row of bytes. Only private clauses name this.
use Rattle.std.specs.Prelude.{◌≡◌, ℕ, ◌+◌, ◌<◌, ◌∷◌, ◌++◌, take, length, codes, decimal}
use Rattle.quantity.specs.Bytes.{Bytes}
use Rattle.quantity.specs.ByteNames.{comma}
use Rattle.quantity.specs.declared.place.Place.{Place}

-- behind the first bytes, and up to an end, this text was written
pub record Placed (old new : Bytes) (at : ℕ) (text : Bytes) (end : ℕ) : Type 0 where
  pub bytes : take end new ≡ take at old ++ text
  pub moved : end ≡ at + length text
  pub len : length new ≡ length old

-- row and column have at most three digits
pub record IsShort (p : Place) : Type 0 where
  pub row : p.row < 1000
  pub column : p.column < 1000

-- two coordinates, and what stands behind them
abbrev pub short_text : Place → Bytes
short_text p = decimal p.row ++ comma ∷ (decimal p.column ++ codes ") / ")
