-- What a class of atomic models is: its names, and how its boxes start and move, over two lists of
-- numbers, the settings and the state.
use Rattle.std.specs.Prelude.{ℕ, Bool, Option, List, ℤ}
use Rattle.quantity.specs.Bytes.{Bytes}
use Rattle.atomic_face.specs.declared.params.Param.{Param}
use Rattle.atomic_face.specs.Bags.{Bag}

-- all that is said of a class
pub record ClassRules : Type 0 where
  -- the name by which model files call it
  pub name : Bytes
  -- its input ports, by number
  pub inputs : List Bytes
  -- the keys that stand at most once
  pub once_keys : List Bytes
  -- the settings that parameters give
  pub settings : List Param → List ℤ
  -- the lines on which a parameter is off its form
  pub lines_off : List Param → List ℕ
  -- of settings: the state that they start with
  pub start : List ℤ → List ℤ
  -- of a state: the time of the next internal event, or none
  pub next : List ℤ → Option ℕ
  -- of settings and a state: what is given at the next internal event
  pub output : List ℤ → List ℤ → Bag
  -- of settings and a state: the state after a move at a time, or none where a sum overflows
  pub moved : List ℤ → List ℤ → ℕ → Bag → Option (List ℤ)
  -- of settings: whether these words are a state
  pub is_state : List ℤ → List ℤ → Bool
