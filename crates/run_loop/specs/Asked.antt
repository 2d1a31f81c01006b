-- What comes of a run for what is asked: how it ends, what it leaves, and what it costs.
use Rattle.std.specs.Prelude.{ℕ, ◌+◌, Option, List}
use Rattle.model_tree.specs.Tree.{Word}
use Rattle.run_model.specs.Run.{Event, most_cycles}
use Rattle.run_model.specs.Visits.{visits}
use Rattle.text_forms.specs.StateOf.{Saved}
use Rattle.room_edge.specs.Outside.{Outside}
use Rattle.answer_model.specs.declared.status.Status.{Status}
use Rattle.answer_model.specs.Endings.{looked_for, EndsWith}
use Rattle.answer_model.specs.Visits.{state_visits}
use Rattle.asked_words.specs.declared.asked.Asked.{Asked}
use Rattle.asked_words.specs.Shown.{asked_of}
use Rattle.run_leaves.specs.Standing.{Standing, tree_in}
use Rattle.run_loop.specs.Groups.{showing_at_start}
use Rattle.run_loop.specs.Answers.{BeginsFrom, answer_to}
use Rattle.run_loop.specs.Left.{rest_of}
use Rattle.run_loop.specs.Ran.{asking_of}
use Rattle.run_loop.specs.Leaves.{Spent, Leaves}

-- it ends with the answer to all from which it may begin
abbrev pub EndsAsAsked : Asked → Standing → Outside → Outside → Status → Type 0
EndsAsAsked a s old new status =
    (events : List Event) (from : Option Saved) (inputs : List Word)
    → BeginsFrom (asked_of a) events from s
    → EndsWith (answer_to (asked_of a) events from s inputs) (looked_for inputs) old new status

-- it leaves the files of all from which it may begin, with the visits of the cycles begun
abbrev pub LeavesAsAsked : Asked → Standing → Outside → Outside → Spent → Status → Type 0
LeavesAsAsked a s old new spent status =
    (events : List Event) (from : Option Saved) → BeginsFrom (asked_of a) events from s
    → Leaves (asking_of a s) (rest_of (most_cycles a.end a.given.limit) s)
    (showing_at_start (tree_in s) from (asked_of a).frames) old new spent status

-- the visits of the reference run, and those of a state that is read or saved
abbrev pub asked_visits : Asked → Standing → ℕ
asked_visits a s =
    state_visits (asked_of a).state (tree_in s)
    + visits (tree_in s) (rest_of (most_cycles a.end a.given.limit) s)
    + state_visits (asked_of a).save (tree_in s)
