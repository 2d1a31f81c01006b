-- The files that a run makes: its log, its output, its frames and its state at the end.
use Rattle.std.specs.Prelude.{ℕ, ◌+◌, nat_lt, Option, Some, None, List, [], ◌∷◌, ◌++◌, slice_get, if◌then◌else◌}
use Rattle.std.specs.Str.{bytes_eq}
use Rattle.quantity.specs.declared.value.Value.{Value}
use Rattle.quantity.specs.declared.value.Value.TheVariants.{Undefined}
use Rattle.quantity.specs.Bytes.{Bytes}
use Rattle.cell_grid.specs.Space.{cell_count}
use Rattle.model_tree.specs.Tree.{Word, Group, Tree, Leaf, atomic_leaf, cell_leaf, leaves}
use Rattle.run_model.specs.Cycle.{LeafState, box_state, cell_state}
use Rattle.run_model.specs.Run.{Event, Cycle, done, Run}
use Rattle.text_forms.specs.Lines.{log_bytes, out_bytes}
use Rattle.text_forms.specs.Frames.{frames_of}
use Rattle.text_forms.specs.StateText.{text_of_state}
use Rattle.text_forms.specs.StateOf.{Saved}
use Rattle.answer_model.specs.Asked.{Asked, FramesFile}
use Rattle.answer_model.specs.Answer.{MadeFiles, Answer}
use Rattle.answer_model.specs.RunEnd.{verdict_message}

-- a file where one is asked for
abbrev pub file_if : Option Word → Bytes → MadeFiles
file_if None bytes = []
file_if (Some name) bytes = (name, bytes) ∷ []

-- ---- frames

-- the group of a name, with the number of its first leaf
abbrev pub group_at : Word → List Leaf → Option (ℕ × Group)
group_at name [] = None
group_at name (atomic_leaf n class settings ∷ ls) = group_at name ls
group_at name (cell_leaf g first cell ∷ ls) =
    if bytes_eq g.name name then Some (first, g) else group_at name ls

-- the value that a leaf gave last at its port out; undefined for a box
abbrev pub emitted_of : Option LeafState → Value
emitted_of None = Undefined
emitted_of (Some (box_state b)) = Undefined
emitted_of (Some (cell_state c)) =
    elim (slice_get c.ports 0) [ None ↦ Undefined | Some p ↦ p.emitted ]

-- what each cell of a group had emitted before the run
abbrev pub emitted_before : Option Saved → ℕ × Group → ℕ → Value
emitted_before None g cell = Undefined
emitted_before (Some s) g cell =
    if nat_lt cell (cell_count g.1.space) then emitted_of (slice_get s.states (g.0 + cell))
    else Undefined

-- the file of frames, where the model has the group
abbrev pub frames_file : Tree → Option Saved → List Cycle → FramesFile → MadeFiles
frames_file tree from cycles f =
    elim (group_at f.drawing.group (leaves tree)) [
      | None ↦ []
      | Some g ↦ (
        f.name,
        frames_of (record {
          space = g.1.space;
          plane = f.drawing.plane;
          width = f.width;
          decimals = f.decimals;
        }) g.0 (emitted_before from g) cycles,
      ) ∷ []
    ]

-- the same, where one is asked for
abbrev pub frames_if : Tree → Option Saved → List Cycle → Option FramesFile → MadeFiles
frames_if tree from cycles None = []
frames_if tree from cycles (Some f) = frames_file tree from cycles f

-- ---- all files, in their order

-- a state is saved of a run that is done at its end, and else nothing
abbrev pub saved_text : ℕ → Tree → Run → Bytes
saved_text end tree r = elim r.verdict [ done ↦ text_of_state tree end r.left.leaf_states | _ ↦ [] ]

-- the files that a run makes: log, output, frames, state
abbrev pub made_files : Asked → Tree → Option Saved → Run → MadeFiles
made_files a tree from r =
    file_if a.log (log_bytes tree a.letters r.cycles) ++ file_if a.out (out_bytes tree r.cycles)
    ++ frames_if tree from r.cycles a.frames
    ++ file_if a.save (saved_text a.end tree r)

-- what a run answers, from the start or from a saved state
abbrev pub answer_of_run : Asked → Tree → List Event → Option Saved → List Word → Run → Answer
answer_of_run a tree events from inputs r =
    let s = verdict_message a tree events r.cycles r.verdict in
    record {
      made = made_files a tree from r;
      shown = s.shown;
      complained = s.complained;
      status = s.status;
      inputs = inputs;
    }
