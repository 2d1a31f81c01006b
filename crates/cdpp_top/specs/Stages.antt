-- Private: what the reading of the program comes to, on the way to the answer.
use Rattle.std.specs.Prelude.{◌≡◌, ◌≢◌, Option, None, List, [], Result, Ok, Err, IfSome}
use Rattle.quantity.specs.Written.{for_ok}
use Rattle.source_text.specs.Lines.{Files}
use Rattle.atomic_face.specs.declared.class.Class.{Class}
use Rattle.room_edge.specs.FaultCounts.{KeepsMisses}
use Rattle.room_edge.specs.Outside.{Outside}
use Rattle.model_tree.specs.Tree.{Word, Tree}
use Rattle.run_model.specs.Run.{Event}
use Rattle.text_forms.specs.StateOf.{Saved}
use Rattle.model_text.specs.Drawings.{Drawing}
use Rattle.model_text.specs.LifeModel.{made_text}
use Rattle.model_text.specs.ModelOf.{ModelRead, model_of}
use Rattle.model_read.specs.Whole.{of_name}
use Rattle.model_read.specs.declared.refusal.ModelRefusal.{ModelRefusal}
use Rattle.model_read.specs.declared.refusal.ModelRefusal.TheVariants as M
use Rattle.answer_model.specs.declared.status.Status.{Status}
use Rattle.answer_model.specs.declared.status.Status.TheVariants.{ReadFault}
use Rattle.answer_model.specs.Asked.{Asked, ModelSource, file, made, asked_by_words}
use Rattle.answer_model.specs.Started.{Started, Stopped, events_read, state_read, inputs_read}
use Rattle.answer_model.specs.ByWords.{started_by_words}
use Rattle.answer_model.specs.Cdpp.{answer_of}
use Rattle.answer_model.specs.Endings.{looked_for, LeadsTo, EndsWith}
use Rattle.answer_model.specs.FaultsAnswered.{NoReadFault, AnswersFaults}
use Rattle.answer_model.specs.LastPieces.{WritesNothing}
use Rattle.answer_model.specs.Programs.{CdppCauses}
use Rattle.run_inputs.specs.declared.unread.Unread.{Unread}
use Rattle.run_inputs.specs.declared.unread.Unread.TheVariants as why
use Rattle.run_inputs.specs.Unread.{TellsUnread}
use Rattle.run_inputs.specs.Read.{LooksFor}

-- ---- the model

-- what is read of a source: the file of a name, or a made text
abbrev pub model_in : ModelSource → List Class → Option Drawing → Files → ModelRead
model_in (file name) classes drawing files = of_name name classes drawing files
model_in (made size) classes drawing files = model_of (made_text size) files classes drawing

-- why there is no model
abbrev pub unread_model : ModelRefusal → Unread
unread_model (M.Missing name) = why.Missing name
unread_model (M.ReadFault name) = why.ReadFault name
unread_model (M.Refused line kind) = why.Model line kind
unread_model M.Memory = why.Memory

-- ---- what is left to read, once there is a model

-- what is started, with the state that is read
abbrev pub started_from : Asked → Tree → List Event → Option Saved × List Word → Started
started_from a tree events r =
    record { asked = a; tree = tree; events = events; from = r.0; inputs = r.1 }

-- its state, once there are events
abbrev pub with_events : Asked → Files → Tree → List Event × List Word → Result Started Stopped
with_events a files tree q =
    for_ok (state_read a files tree q.1) (λ r. Ok (started_from a tree q.0 r))

-- its events, and then its state
abbrev pub with_model : Asked → Files → Tree × List Word → Result Started Stopped
with_model a files p = for_ok (events_read a files p.0 p.1) (with_events a files p.0)

-- something that is started was read, and its files were looked for; or, once it is told why there
-- is nothing, the end: whatever files were looked for before
abbrev pub ReadsRest : {A : Type 0} → (A → Started → Type 0) → (List Word → Result Started Stopped)
    → Outside → Outside → Result A Unread → Type 0
ReadsRest stands gives old new (Ok x) =
    (inputs : List Word) → (s : Started) × (gives inputs ≡ Ok s) × stands x s
    × LooksFor inputs s.inputs old new
ReadsRest stands gives old new (Err why) =
    (inputs : List Word) (after : Outside) (status : Status) → TellsUnread why new after status
    → EndsWith (answer_of (gives inputs)) (looked_for inputs) old after status

-- the same of a model, where the files are told
abbrev pub ReadsWithModel : {A : Type 0} → (A → Started → Type 0) → Asked → Tree
    → Outside → Outside → Result A Unread → Type 0
ReadsWithModel stands a tree old new result =
    IfSome old.files
    (λ files. ReadsRest stands (λ inputs. with_model a files (tree, inputs)) old new result)

-- the same of a model and its events
abbrev pub ReadsWithEvents : {A : Type 0} → (A → Started → Type 0) → Asked → Tree → List Event
    → Outside → Outside → Result A Unread → Type 0
ReadsWithEvents stands a tree events old new result =
    IfSome old.files
    (λ files. ReadsRest stands (λ inputs. with_events a files tree (events, inputs)) old new result)

-- ---- all that is read

-- something that is started was read, and its files were looked for; or, once it is told why there
-- is nothing, the end
abbrev pub ReadsStart : {A : Type 0} → (A → Started → Type 0) → Result Started Stopped → Outside
    → Outside → Result A Unread → Type 0
ReadsStart stands started old new (Ok x) =
    (s : Started) × (started ≡ Ok s) × stands x s
    × LeadsTo (answer_of started) (looked_for []) (looked_for s.inputs) old new
ReadsStart stands started old new (Err why) =
    (after : Outside) (status : Status) → TellsUnread why new after status
    → EndsWith (answer_of started) (looked_for []) old after status

-- the same of words, where the files are told
abbrev pub ReadsWords : {A : Type 0} → (A → Started → Type 0) → List Word → List Class
    → Outside → Outside → Result A Unread → Type 0
ReadsWords stands words classes old new result =
    IfSome old.files
    (λ files. ReadsStart stands (started_by_words words files classes) old new result)

-- the same of what is asked
abbrev pub ReadsInputs : {A : Type 0} → (A → Started → Type 0) → Asked → List Class
    → Outside → Outside → Result A Unread → Type 0
ReadsInputs stands a classes old new result =
    IfSome old.files (λ files. ReadsStart stands (inputs_read a files classes) old new result)

-- how the program ends over every room: the status has its cause, each fault that was counted shows
-- in it, and on a read fault nothing is written
pub record EndsOverAll (words : List Word) (old new : Outside) (status : Status) : Type 0 where
  pub causes : CdppCauses words old new status
  pub faults : AnswersFaults old new status
  pub nothing : status ≡ ReadFault → WritesNothing old new

-- the words are taken, no miss is forgotten, and no fault was counted; or, once it is told why there
-- is no start, the end
abbrev pub StartCauses : {A : Type 0} → List Word → Outside → Outside → Result A Unread → Type 0
StartCauses words old new (Ok x) =
    (asked_by_words words ≢ None) × KeepsMisses old new × NoReadFault old new
StartCauses words old new (Err why) =
    (after : Outside) (status : Status) → TellsUnread why new after status
    → EndsOverAll words old after status
