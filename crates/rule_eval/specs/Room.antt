-- What is seen of a stack.
use Rattle.std.specs.Prelude.{ℕ}

-- how many answers were asked for, and for how many there is memory
pub record Room : Type 0 where
  pub depth : ℕ
  pub memory : ℕ
