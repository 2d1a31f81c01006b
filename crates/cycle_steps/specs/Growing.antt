-- Private: lists behind which something is put.
use Rattle.std.specs.Prelude.{◌≡◌, ◌++◌, List}

-- the second list is the first one with something behind it, perhaps nothing
pub record Grown {A : Type 0} (old new : List A) : Type 0 where
  pub behind : List A
  pub items : new ≡ old ++ behind
