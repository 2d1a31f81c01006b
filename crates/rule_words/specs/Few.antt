-- How many names the rules of a group may use.
use Rattle.std.specs.Prelude.{◌≤◌, List, length}
use Rattle.quantity.specs.Bytes.{Bytes}
use Rattle.quantity.specs.declared.place.Offset.{Offset}
use Rattle.quantity.specs.declared.bounds.TheConstants.{MAX_OFFSETS}

-- at most 128 offsets, 8 state variables, and 3 neighbour ports beside `out`
pub record AreFew (neighbours : List Offset) (words further : List Bytes) : Type 0 where
  pub offsets : length neighbours ≤ MAX_OFFSETS
  pub variables : length words ≤ 8
  pub ports : length further ≤ 3
