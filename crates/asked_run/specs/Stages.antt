-- Private: the stages of a run: what each comes to, on the way to the answer.
use Rattle.std.specs.Prelude.{◌≡◌, ℕ, ◌+◌, ◌≤◌, List}
use Rattle.std.specs.Prelude.{Option, None, IfSome, Result, Ok, Err}
use Rattle.std.specs.Bool.{OnTrue}
use Rattle.std.specs.Option.{is_some}
use Rattle.quantity.specs.Bytes.{Bytes}
use Rattle.source_text.specs.Lines.{Files}
use Rattle.room_edge.specs.Faults.{WriteFaultCounted}
use Rattle.room_edge.specs.Outside.{Outside}
use Rattle.model_tree.specs.Tree.{Word, Tree}
use Rattle.text_forms.specs.StateOf.{Saved, state_of}
use Rattle.run_leaves.specs.Standing.{Standing, tree_in}
use Rattle.asked_words.specs.declared.asked.Asked as code
use Rattle.asked_words.specs.Shown.{asked_of}
use Rattle.run_loop.specs.Answers.{BeginsFrom}
use Rattle.answer_model.specs.declared.status.Status.{Status}
use Rattle.answer_model.specs.declared.status.Status.TheVariants.{WriteFault}
use Rattle.answer_model.specs.Status.{of_run, IsOf}
use Rattle.answer_model.specs.Started.{Started, Stopped, bad_state, if_named, there}
use Rattle.answer_model.specs.Cdpp.{start_answer}
use Rattle.answer_model.specs.Visits.{is_counted, start_visits}
use Rattle.answer_model.specs.Endings.{looked_for, EndsWith}
use Rattle.answer_model.specs.FaultsAnswered.{AnswersFaults}
use Rattle.state_file.specs.Loads.{resumed_from, IsRefusalOf}
use Rattle.run_inputs.specs.declared.unread.Unread.{Unread}
use Rattle.run_inputs.specs.declared.unread.Unread.TheVariants as unread
use Rattle.asked_run.specs.Starting.{going_from}
use Rattle.asked_run.specs.Leaving.{RunLeaves}
use Rattle.run_inputs.specs.Read.{EndsUnread, LooksFor}

-- ---- the state

-- that of a file, where one is named
abbrev pub state_in : Tree → ℕ → Files → List Word → Option Word
    → Result (Option Saved × List Word) Stopped
state_in tree end files inputs name =
    if_named None (λ bytes. there (state_of bytes tree end)) bad_state files inputs name

-- the state was read that the run goes on from, and its file was looked for; or, once it is told
-- why there is none, the end
abbrev pub ReadsState : Option Word → Standing → ℕ → Files → Outside → Outside
    → Result Standing Unread → Type 0
ReadsState name s end files old new (Ok r) =
    (inputs : List Word) → (from : Option Saved) × (more : List Word)
    × (state_in (tree_in s) end files inputs name ≡ Ok (from, more))
    × (is_some name ≡ is_some from) × (r ≡ going_from s from) × LooksFor inputs more old new
ReadsState name s end files old new (Err why) =
    EndsUnread (λ inputs. state_in (tree_in s) end files inputs name) why old new

-- the same where the files are told
abbrev pub ReadsToldState : Option Word → Standing → ℕ → Outside → Outside
    → Result Standing Unread → Type 0
ReadsToldState name s end old new result =
    IfSome old.files (λ files. ReadsState name s end files old new result)

-- a run goes on from the state that bytes give, or they are refused
abbrev pub GoesOnBy : Bytes → Standing → ℕ → Result Standing Unread → Type 0
GoesOnBy bytes s end (Ok r) =
    (saved : Saved) × (state_of bytes (tree_in s) end ≡ Ok saved) × (r ≡ resumed_from s saved)
GoesOnBy bytes s end (Err (unread.State why)) = IsRefusalOf (state_of bytes (tree_in s) end) why
GoesOnBy bytes s end (Err why) = ⊥

-- ---- what is started

-- a run, with what is asked for, is one that is started
pub record StandsAt (a : code.Asked) (r : Standing) (s : Started) : Type 0 where
  pub asked_is : asked_of a ≡ s.asked
  pub tree_is : tree_in r ≡ s.tree
  pub begins : BeginsFrom s.asked s.events s.from r

-- ---- the run of what was read

-- it ends as each start does that it may be
abbrev pub EndsStarted : code.Asked → Standing → Outside → Outside → Status → Type 0
EndsStarted a r old new status =
    (s : Started) → StandsAt a r s → EndsWith (start_answer s) (looked_for s.inputs) old new status

-- it takes at most the visits of each start that it may be, where these are counted
abbrev pub CostsStarted : code.Asked → Standing → ℕ → ℕ → Type 0
CostsStarted a r before after =
    (s : Started) → StandsAt a r s → OnTrue (is_counted s.asked) (after ≤ before + start_visits s)

-- it leaves what each start leaves that it may be
abbrev pub LeavesStarted : code.Asked → Standing → Outside → Outside → ℕ → ℕ → Status → Type 0
LeavesStarted a r old new before after status =
    (s : Started) → StandsAt a r s → RunLeaves s old new before after status

-- all of this of a run, with the status that it ends with, the visits before it and those after
pub record RunsStarted (a : code.Asked) (r : Standing) (old new : Outside) (before after : ℕ)
    (status : Status) : Type 0 where
  pub ends : EndsStarted a r old new status
  pub known : IsOf of_run status
  pub write_fault : status ≡ WriteFault → WriteFaultCounted old new
  pub faults : AnswersFaults old new status
  pub visits : CostsStarted a r before after
  pub leaves : LeavesStarted a r old new before after status
