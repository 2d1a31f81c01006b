-- What the end of a run adds to the files: the last frame, and what is saved.
use Rattle.std.proofs.Common.{Option}
use Rattle.std.specs.Prelude.{Result}
use Rattle.quantity.specs.Bytes.{Bytes}
use Rattle.room_edge.specs.Outside.{Outside}
use Rattle.run_loop.specs.declared.outputs.Output.TheVariants.{Frames, State}
use Rattle.run_loop.specs.declared.outputs.Unwritten.{Unwritten}
use Rattle.run_loop.specs.Texts.{FileNames}
use Rattle.run_loop.specs.Order.{one_piece}
use Rattle.run_loop.specs.Pieces.{end_pieces}
use Rattle.run_loop.specs.Showing.{Showing, last_frame}
use Rattle.run_loop.specs.Written.{AddsAll, Falls, Writes}
use Rattle.run_loop.proofs.Adding.{falls_before, writes_after}

-- ---- the last frame, and then the state

module _ (n : FileNames) (w : Option Showing) (saved : Bytes) where
  -- the frame was not written
  pub frame_unwritten : (why : Unwritten) (old new : Outside) → Falls n why (one_piece Frames (last_frame w)) old new → Falls n why (end_pieces w saved) old new
  frame_unwritten why old new frame = falls_before n why (one_piece Frames (last_frame w)) (one_piece State saved) old new frame

  -- the frame was, whatever became of the state
  pub end_written : {T : Type 0} (old mid new : Outside) (r : Result T Unwritten) → AddsAll n (one_piece Frames (last_frame w)) old mid → Writes n (one_piece State saved) mid new r → Writes n (end_pieces w saved) old new r
  end_written old mid new r frame state = writes_after n (one_piece Frames (last_frame w)) (one_piece State saved) old mid new r frame state
