-- Frames that are being drawn.
use Rattle.std.specs.Prelude.{ℕ, ◌<◌, ◌≤◌, Option, Some, None, List, [], replicate, slice_index_or, slice_set}
use Rattle.quantity.specs.Bytes.{Bytes}
use Rattle.quantity.specs.declared.value.Value.{Value}
use Rattle.quantity.specs.declared.value.Value.TheVariants.{Undefined}
use Rattle.cell_grid.specs.Space.{Space, cell_count, plane_count}
use Rattle.text_forms.specs.Frames.{Picture, frame_text}

-- what is drawn, the value of each cell, and the instant that was begun
pub record DrawingState : Type 0 where
  pub picture : Picture
  pub values : List Value
  pub begun : Option ℕ

-- a plane of the space, 1 to 20 places for a value, and at most 5 decimals
pub record CanDraw (space : Space) (plane width decimals : ℕ) : Type 0 where
  pub plane_inside : plane < plane_count space
  pub some_width : 1 ≤ width
  pub narrow : width ≤ 20
  pub short : decimals ≤ 5

-- no value is known and no instant is begun
abbrev pub blank : Picture → DrawingState
blank p = record { picture = p; values = replicate (cell_count p.space) Undefined; begun = None }

-- a cell has another value
abbrev pub with_value : ℕ → Value → DrawingState → DrawingState
with_value cell v d =
    record { picture = d.picture; values = slice_set d.values cell v; begun = d.begun }

-- the instant that was begun
abbrev pub with_instant : Option ℕ → DrawingState → DrawingState
with_instant t d = record { picture = d.picture; values = d.values; begun = t }

-- the value of a cell
abbrev pub value_of_cell : List Value → ℕ → Value
value_of_cell values cell = slice_index_or values cell Undefined

-- the frame of the instant that was begun, if any
abbrev pub frame_at : DrawingState → Option ℕ → Bytes
frame_at d None = []
frame_at d (Some t) = frame_text d.picture t (value_of_cell d.values)

-- the frame that is drawn so far
abbrev pub frame_of : DrawingState → Bytes
frame_of d = frame_at d d.begun
