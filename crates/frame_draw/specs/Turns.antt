-- What is shown, taken in turn: a frame is drawn where an instant ends.
use Rattle.std.specs.Prelude.{◌≡◌, ℕ, ◌<◌, ◌≤◌, Bool, false, not, ◌==◌, Option, Some, None, List, [], ◌∷◌, ◌++◌, length, if◌then◌else◌}
use Rattle.std.specs.List.{AllByRecursion}
use Rattle.quantity.specs.Bytes.{Bytes}
use Rattle.quantity.specs.declared.value.Value.{Value}
use Rattle.cell_grid.specs.Space.{cell_count}
use Rattle.text_forms.specs.Frames.{Picture, ShownCell, frames}
use Rattle.frame_draw.specs.Drawing.{DrawingState, frame_of, value_of_cell, with_instant, with_value}

-- an instant was begun, and it is another than this
abbrev pub is_other : Option ℕ → ℕ → Bool
is_other None at = false
is_other (Some t) at = not (t == at)

-- the frame that is drawn before something of this instant is taken
abbrev pub text_before : ℕ → DrawingState → Bytes
text_before at d = if is_other d.begun at then frame_of d else []

-- what is shown is taken
abbrev pub with_shown : ShownCell → DrawingState → DrawingState
with_shown s d = with_instant (Some s.time) (with_value s.cell s.value d)

-- the frames that are drawn where all is taken in turn, and the last one
abbrev pub drawn_in_turn : DrawingState → List ShownCell → Bytes
drawn_in_turn d [] = frame_of d
drawn_in_turn d (s ∷ ss) = text_before s.time d ++ drawn_in_turn (with_shown s d) ss

-- times never fall, from this one on
abbrev pub NeverFall : ℕ → List ShownCell → Type 0
NeverFall t [] = Unit {0}
NeverFall t (s ∷ ss) = (t ≤ s.time) × NeverFall s.time ss

-- so all frames are drawn
abbrev pub DrawsAllFrames : Type 0
DrawsAllFrames =
    (p : Picture) (values : List Value) (ss : List ShownCell) → length values ≡ cell_count p.space
    → AllByRecursion (λ (s : ShownCell). s.cell < length values) ss → NeverFall 0 ss
    → drawn_in_turn (record { picture = p; values = values; begun = None }) ss
    ≡ frames p (value_of_cell values) ss
