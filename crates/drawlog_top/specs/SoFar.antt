-- Private: frames that are drawn as a log goes on.
use Rattle.std.specs.Prelude.{ℕ, List, [], ◌∷◌, ◌++◌, Result, Ok, Err, None, if◌then◌else◌}
use Rattle.quantity.specs.Bytes.{Bytes}
use Rattle.model_tree.specs.Tree.{Word}
use Rattle.text_forms.specs.Frames.{Picture, ShownCell, lines_from}
use Rattle.frame_draw.specs.Drawing.{DrawingState, blank, with_instant}
use Rattle.frame_draw.specs.Turns.{is_other, text_before, with_shown, drawn_in_turn}

-- the text of the frames that are drawn, and what is drawn next
pub record SoFar : Type 0 where
  pub text : Bytes
  pub drawing : DrawingState

-- a drawing before the first line
abbrev pub nothing_drawn : Picture → SoFar
nothing_drawn p = record { text = []; drawing = blank p }

-- the frame of an instant that was begun is drawn where it is another than this
abbrev pub finished_before : ℕ → SoFar → SoFar
finished_before at d =
    record {
      text = d.text ++ text_before at d.drawing;
      drawing = if is_other d.drawing.begun at then with_instant None d.drawing else d.drawing;
    }

-- what is shown is taken
abbrev pub with_taken : ShownCell → SoFar → SoFar
with_taken s d =
    record { text = d.text ++ text_before s.time d.drawing; drawing = with_shown s d.drawing }

-- one after another
abbrev pub with_all : List ShownCell → SoFar → SoFar
with_all [] d = d
with_all (s ∷ ss) d = with_all ss (with_taken s d)

-- the text where all this is shown next, and the last frame is drawn; or the line that is refused
abbrev pub text_with : SoFar → Result (List ShownCell) ℕ → Result Bytes ℕ
text_with d (Err line) = Err line
text_with d (Ok shown) = Ok (d.text ++ drawn_in_turn d.drawing shown)

-- the text where these lines are read next, the first of which has this number and stands below one
-- of that time
abbrev pub drawn_from : Word → ℕ → ℕ → SoFar → List Bytes → Result Bytes ℕ
drawn_from group line before d parts =
    text_with d (lines_from d.drawing.picture.space group line before parts)
