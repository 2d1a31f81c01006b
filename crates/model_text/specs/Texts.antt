-- Private: what references to texts point to.
use Rattle.std.specs.Prelude.{List, map}
use Rattle.std.specs.Borrow.{Bor}
use Rattle.quantity.specs.Bytes.{Bytes}

-- lines as bytes
abbrev pub texts : List (Bor Bytes) → List Bytes
texts lines = map (λ line. line.now) lines
