-- The group whose frames are drawn.
use Rattle.std.specs.Prelude.{ℕ, Option, Some, None, ⊤}
use Rattle.cell_grid.specs.Space.{Space}
use Rattle.model_leaves.specs.declared.table.Model.{Model}
use Rattle.model_tree.specs.Tree.{Group, Tree, leaves}
use Rattle.model_leaves.specs.Models.{tree_of}
use Rattle.model_leaves.specs.Leaves.{OfTree, Settings}
use Rattle.text_forms.specs.Frames.{Picture}
use Rattle.frame_draw.specs.Drawing.{CanDraw}
use Rattle.answer_model.specs.Asked.{FramesFile}
use Rattle.answer_model.specs.Started.{drawing_of}
use Rattle.text_forms.specs.StateOf.{Saved}
use Rattle.answer_model.specs.RunFiles.{group_at, emitted_before}
use Rattle.asked_words.specs.declared.group.GroupAt.{GroupAt}
use Rattle.asked_words.specs.Group.{IsDrawn}
use Rattle.run_loop.specs.Showing.{Showing, showing_from}

-- the group stands there in the model, and none where there are no frames
abbrev pub IsFoundIn : Model → Option FramesFile → Option GroupAt → Type 0
IsFoundIn m frames group = OfTree m (λ t. IsDrawn (drawing_of frames) group t)

-- ---- how the frames begin

-- the picture of a group's space
abbrev pub picture_of : FramesFile → Space → Picture
picture_of f s =
    record { space = s; plane = f.drawing.plane; width = f.width; decimals = f.decimals }

-- frames of a group that is there
abbrev pub begun_at : FramesFile → Option Saved → Option (ℕ × Group) → Option Showing
begun_at f from None = None
begun_at f from (Some g) = Some (showing_from g.0 (picture_of f g.1.space) (emitted_before from g))

-- the frames of the group, where there are to be such and there is the group: each cell has the
-- value that it had emitted in the state that the run goes on from, if any
abbrev pub showing_at_start : Tree → Option Saved → Option FramesFile → Option Showing
showing_at_start tree from None = None
showing_at_start tree from (Some f) = begun_at f from (group_at f.drawing.group (leaves tree))

-- the group is there, and its plane can be drawn
abbrev pub CanDrawOf : FramesFile → Option (ℕ × Group) → Type 0
CanDrawOf f None = ⊥
CanDrawOf f (Some g) = CanDraw g.1.space f.drawing.plane f.width f.decimals

-- the frames that are asked for can be drawn
abbrev pub CanShow : Tree → Option FramesFile → Type 0
CanShow tree None = ⊤
CanShow tree (Some f) = CanDrawOf f (group_at f.drawing.group (leaves tree))

-- under some settings of the boxes
abbrev pub CanShowIn : Model → Option FramesFile → Type 0
CanShowIn m frames = (settings : Settings) × CanShow (tree_of m settings) frames
