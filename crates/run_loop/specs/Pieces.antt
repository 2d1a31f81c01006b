-- The pieces that a run writes, in their order.
use Rattle.std.specs.Prelude.{List, [], ◌∷◌, ◌++◌, ℕ, Option}
use Rattle.std.specs.Option.{option_map}
use Rattle.quantity.specs.Bytes.{Bytes}
use Rattle.model_tree.specs.Tree.{Tree}
use Rattle.run_model.specs.Run.{Cycle}
use Rattle.text_forms.specs.Lines.{log_bytes, out_bytes}
use Rattle.run_loop.specs.declared.outputs.Output.{Output}
use Rattle.run_loop.specs.declared.outputs.Output.TheVariants.{Log, Out, Frames, State}
use Rattle.run_loop.specs.Order.{Piece, piece_of, one_piece}
use Rattle.run_loop.specs.Showing.{Showing, after_cycle, frame_before, last_frame}

-- the lines of a cycle in the log and in the output; the other files have no lines of a cycle
abbrev pub lines_of : Tree → List ℕ → Cycle → Output → Bytes
lines_of tree letters c Log = log_bytes tree letters (c ∷ [])
lines_of tree letters c Out = out_bytes tree (c ∷ [])
lines_of tree letters c Frames = []
lines_of tree letters c State = []

-- of a cycle: the frame of an instant that is over, its log lines, its output lines
abbrev pub cycle_pieces : Tree → List ℕ → Option Showing → Cycle → List Piece
cycle_pieces tree letters w c =
    piece_of Frames (frame_before c.time w) ∷ piece_of Log (lines_of tree letters c Log)
    ∷ piece_of Out (lines_of tree letters c Out)
    ∷ []

-- what is drawn after some cycles
abbrev pub drawn_after : List Cycle → Option Showing → Option Showing
drawn_after [] w = w
drawn_after (c ∷ cs) w = drawn_after cs (option_map (after_cycle c) w)

-- of cycles, one after another
abbrev pub cycles_pieces : Tree → List ℕ → Option Showing → List Cycle → List Piece
cycles_pieces tree letters w [] = []
cycles_pieces tree letters w (c ∷ cs) =
    cycle_pieces tree letters w c
    ++ cycles_pieces tree letters (option_map (after_cycle c) w) cs

-- at the end of a run the last frame, and what is saved
abbrev pub end_pieces : Option Showing → Bytes → List Piece
end_pieces w saved = one_piece Frames (last_frame w) ++ one_piece State saved

-- of all cycles, and of the end
abbrev pub run_pieces : Tree → List ℕ → Option Showing → List Cycle → Bytes → List Piece
run_pieces tree letters w cs saved =
    cycles_pieces tree letters w cs ++ end_pieces (drawn_after cs w) saved
