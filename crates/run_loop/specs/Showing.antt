-- The frames that are drawn while a run goes on, and what its cycles add to each file.
use Rattle.std.specs.Prelude.{◌≡◌, ℕ, ◌≤◌, ⊤, Bool, false, Option, Some, None, List, [], ◌∷◌, map}
use Rattle.std.specs.Prelude.{if◌then◌else◌}
use Rattle.std.specs.List.{range_with_len}
use Rattle.std.specs.Option.{ForSome}
use Rattle.quantity.specs.Bytes.{Bytes}
use Rattle.quantity.specs.declared.value.Value.{Value}
use Rattle.cell_grid.specs.Space.{cell_count}
use Rattle.model_tree.specs.Tree.{Tree}
use Rattle.run_model.specs.Run.{PortRecord, Cycle}
use Rattle.text_forms.specs.declared.records.YRecord.{YRecord}
use Rattle.text_forms.specs.Lines.{log_bytes, out_bytes}
use Rattle.text_forms.specs.Frames.{Picture, ShownCell, shown_by, shown_in}
use Rattle.frame_draw.specs.Drawing.{DrawingState, blank, frame_of, with_instant}
use Rattle.frame_draw.specs.Turns.{is_other, text_before, with_shown, drawn_in_turn}
use Rattle.run_loop.specs.Texts.{Texts}

-- the frames of the group whose first cell has this leaf number
pub record Showing : Type 0 where
  pub first : ℕ
  pub drawing : DrawingState

-- the same group, drawn so far
abbrev pub with_drawing : DrawingState → Showing → Showing
with_drawing d w = record { first = w.first; drawing = d }

-- before anything is shown
abbrev pub showing_none : ℕ → Picture → Showing
showing_none first p = record { first = first; drawing = blank p }

-- before anything is shown, where each cell has a value already
abbrev pub showing_from : ℕ → Picture → (ℕ → Value) → Showing
showing_from first p start =
    record {
      first = first;
      drawing = record {
        picture = p;
        values = map start (range_with_len 0 (cell_count p.space));
        begun = None;
      };
    }

-- what is shown is taken
abbrev pub with_taken : Option ShownCell → Showing → Showing
with_taken None w = w
with_taken (Some s) w = with_drawing (with_shown s w.drawing) w

-- what a record shows of the cells of the group
abbrev pub shown_of : Showing → ℕ → PortRecord → Option ShownCell
shown_of w at r = shown_by w.drawing.picture.space w.first at r

-- records of this instant are taken one after another
abbrev pub took : ℕ → List PortRecord → Showing → Showing
took at [] w = w
took at (r ∷ rs) w = took at rs (with_taken (shown_of w at r) w)

-- a record as a cycle has it, without its time
abbrev pub plain : YRecord → PortRecord
plain r = record { leaf = r.leaf; port = r.port.0; value = r.value }

-- the instant that was begun is over
abbrev pub showing_after_instant : Showing → Showing
showing_after_instant w = with_drawing (with_instant None w.drawing) w

-- it is over where another begins
abbrev pub ended_before : ℕ → Showing → Showing
ended_before at w = if is_other w.drawing.begun at then showing_after_instant w else w

-- after a cycle: an instant before its own is over, and what it gave is taken
abbrev pub after_cycle : Cycle → Showing → Showing
after_cycle c w = took c.time c.y (ended_before c.time w)

-- ---- texts

-- the frame of an instant that is over where this one begins
abbrev pub frame_before : ℕ → Option Showing → Bytes
frame_before at None = []
frame_before at (Some w) = text_before at w.drawing

-- the frame of the instant that was begun
abbrev pub last_frame : Option Showing → Bytes
last_frame None = []
last_frame (Some w) = frame_of w.drawing

-- the frames of cycles, drawn in turn
abbrev pub frames_left : Option Showing → List Cycle → Bytes
frames_left None cycles = []
frames_left (Some w) cycles =
    drawn_in_turn w.drawing (shown_in w.drawing.picture.space w.first cycles)

-- what cycles add to each file, and the end of the run
abbrev pub left_texts : Tree → List ℕ → Option Showing → List Cycle → Bytes → Texts
left_texts tree letters w cycles saved =
    record {
      log = log_bytes tree letters cycles;
      out = out_bytes tree cycles;
      frames = frames_left w cycles;
      state = saved;
    }

-- ---- tests

-- an instant was begun, and it is another than this
abbrev pub is_begun_before : ℕ → Option Showing → Bool
is_begun_before at None = false
is_begun_before at (Some w) = is_other w.drawing.begun at

-- no instant was begun but this one
abbrev pub BeginsAt : ℕ → Option Showing → Type 0
BeginsAt at None = ⊤
BeginsAt at (Some w) = ForSome w.drawing.begun (λ t. t ≡ at)

-- no instant after this one was begun
abbrev pub IsBegunBy : ℕ → Option Showing → Type 0
IsBegunBy t None = ⊤
IsBegunBy t (Some w) = ForSome w.drawing.begun (λ u. u ≤ t)
