-- What the simulator answers to words and files, which follows from what is started.
use Rattle.std.specs.Prelude.{ℕ, Option, Some, None, List, Result}
use Rattle.room_edge.specs.Outside.{Files}
use Rattle.atomic_face.specs.declared.class.Class.{Class}
use Rattle.model_tree.specs.Tree.{Word, Tree}
use Rattle.run_model.specs.Run.{Event, RunState, Run, start, resumed_state, run_to}
use Rattle.text_forms.specs.StateOf.{Saved}
use Rattle.answer_model.specs.Options.{OptionRow, built_rows}
use Rattle.answer_model.specs.Asked.{Asked}
use Rattle.answer_model.specs.Answer.{Answer, only_complains}
use Rattle.answer_model.specs.RunFiles.{answer_of_run}
use Rattle.answer_model.specs.Started.{Started, Stopped, line_of, status_of, by, started_by}

-- ---- where the run begins, and the run

-- the start, or a saved state with the events after its time
abbrev pub begins : Tree → List Event → Option Saved → RunState
begins tree events None = start tree events
begins tree events (Some s) = resumed_state s.time s.states events

-- the run of a model with these events up to this end, with at most so many cycles at one time:
-- from the start, or from a saved state
unfoldable pub run_on : Tree → List Event → ℕ → ℕ → Option Saved → Run
run_on tree events end limit from = run_to tree end limit (begins tree events from)

-- ---- the answer

-- to a reading that stops: why is complained, and nothing is made or shown
abbrev pub stop_answer : Stopped → Answer
stop_answer e = only_complains (status_of e.why) (line_of e.why) e.inputs

-- of the run of a model with its events, where these files were looked for
abbrev pub answer_from : Asked → Tree → List Event → List Word → Option Saved → Answer
answer_from a tree events inputs from =
    answer_of_run a tree events from inputs (run_on tree events a.end a.limit from)

-- to what is started: what its run answers
abbrev pub start_answer : Started → Answer
start_answer s = answer_from s.asked s.tree s.events s.inputs s.from

-- to a reading, which stops or gives what is started
abbrev pub answer_of : Result Started Stopped → Answer
answer_of r = by stop_answer r start_answer

-- to the words of a command that has these options
abbrev pub answer_by : List OptionRow → List Word → Files → List Class → Answer
answer_by rows words files classes = answer_of (started_by rows words files classes)

-- of the program, with its options
abbrev pub answer : List Word → Files → List Class → Answer
answer words files classes = answer_by built_rows words files classes
