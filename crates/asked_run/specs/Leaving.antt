-- What the run that words ask for leaves: its files, with pieces in their order, the visits of the
-- cycles that were begun, and what is told of a file that could not be written.
use Rattle.std.specs.Prelude.{◌≡◌, ℕ, List, Result, Ok, Err, ◌⊎◌}
use Rattle.atomic_face.specs.declared.class.Class.{Class}
use Rattle.room_edge.specs.FaultCounts.{ComplaintFaultCounted}
use Rattle.room_edge.specs.Outside.{Files, Outside}
use Rattle.model_tree.specs.Tree.{Word, Tree}
use Rattle.answer_model.specs.Asked.{Asked}
use Rattle.answer_model.specs.Started.{Started, Stopped}
use Rattle.answer_model.specs.ByWords.{started_by_words}
use Rattle.answer_model.specs.RunOf.{run_of}
use Rattle.answer_model.specs.Visits.{is_counted}
use Rattle.answer_model.specs.declared.status.Status.{Status}
use Rattle.answer_model.specs.declared.status.Status.TheVariants.{WriteFault}
use Rattle.answer_model.specs.Status.{IsOf, of_run}
use Rattle.run_loop.specs.AskedFiles.{names_asked}
use Rattle.run_loop.specs.Groups.{showing_at_start}
use Rattle.run_loop.specs.Leaves.{Asking, spent_between, Leaves}

-- no file was made, and no leaf was visited; what could not be written was a complaint alone
pub record IsUnrun (old new : Outside) (before after : ℕ) (status : Status) : Type 0 where
  pub made : new.made ≡ old.made
  pub visits : after ≡ before
  pub complaint : status ≡ WriteFault → ComplaintFaultCounted old new

-- what is asked of the files of a run of this model
abbrev pub asking_for : Asked → Tree → Asking
asking_for a tree =
    record {
      names = names_asked a;
      tree = tree;
      letters = a.letters;
      end = a.end;
      state = a.state;
    }

-- the run that is started was not begun; or the files are those that are asked for, with pieces of
-- the cycles that were begun, and it ends as a run does, with this status
abbrev pub RunLeaves : Started → Outside → Outside → ℕ → ℕ → Status → Type 0
RunLeaves s old new before after status =
    IsUnrun old new before after status
    ⊎ (IsOf of_run status × Leaves (asking_for s.asked s.tree) (run_of s)
    (showing_at_start s.tree s.from s.asked.frames) old new
    (spent_between (is_counted s.asked) before after) status)

-- where the reading stops there is no run
abbrev pub LeavesOf : Result Started Stopped → Outside → Outside → ℕ → ℕ → Status → Type 0
LeavesOf (Ok s) old new before after status = RunLeaves s old new before after status
LeavesOf (Err e) old new before after status = IsUnrun old new before after status

-- of what words ask for, with the visits that were counted before and after
abbrev pub LeavesFor : List Word → Files → List Class → Outside → Outside → ℕ → ℕ → Status
    → Type 0
LeavesFor words files classes old new before after status =
    LeavesOf (started_by_words words files classes) old new before after status

-- where the status is none that a run ends with, no run was begun
abbrev pub OnlyRunsLeave : Type 0
OnlyRunsLeave =
    (words : List Word) (files : Files) (classes : List Class) (old new : Outside)
    (before after : ℕ) (status : Status)
    → LeavesFor words files classes old new before after status → ¬ IsOf of_run status
    → IsUnrun old new before after status
