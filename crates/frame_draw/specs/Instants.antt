-- What one instant shows, and its frame.
use Rattle.std.specs.Prelude.{◌≡◌, ℕ, ◌<◌, List, [], ◌∷◌, length, slice_set}
use Rattle.std.specs.List.{AllByRecursion}
use Rattle.quantity.specs.declared.value.Value.{Value}
use Rattle.text_forms.specs.Frames.{Picture, ShownCell, value_drawn, frames, frame_text}
use Rattle.frame_draw.specs.Drawing.{value_of_cell}

-- the values of the cells after what is shown
abbrev pub values_after : List Value → List ShownCell → List Value
values_after values [] = values
values_after values (s ∷ ss) = values_after (slice_set values s.cell s.value) ss

-- it is shown at this instant, of a cell that has a value
abbrev pub IsShownAt : ℕ → ℕ → ShownCell → Type 0
IsShownAt cells t s = (s.time ≡ t) × (s.cell < cells)

-- what an instant shows gives one frame, of the values after it, from which the next instant starts
pub record OneFrame : Type 0 where
  pub frame : (p : Picture) (values : List Value) (t : ℕ) (s : ShownCell) (ss : List ShownCell)
      → AllByRecursion (IsShownAt (length values) t) (s ∷ ss)
      → frames p (value_of_cell values) (s ∷ ss)
      ≡ frame_text p t (value_of_cell (values_after values (s ∷ ss)))
  pub values : (values : List Value) (t cell : ℕ) (ss : List ShownCell)
      → AllByRecursion (IsShownAt (length values) t) ss
      → value_drawn (value_of_cell values) ss t cell ≡ value_of_cell (values_after values ss) cell
