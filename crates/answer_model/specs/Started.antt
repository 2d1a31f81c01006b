-- What words, files and classes start: a run, or the first thing that stops the reading.
use Rattle.std.specs.Prelude.{Option, Some, None, List, ◌∷◌, ◌++◌, codes, Result, Ok, Err, []}
use Rattle.std.specs.Option.{option_map}
use Rattle.quantity.specs.Bytes.{Bytes}
use Rattle.quantity.specs.Written.{for_ok}
use Rattle.room_edge.specs.Outside.{Files}
use Rattle.atomic_face.specs.declared.class.Class.{Class}
use Rattle.model_tree.specs.Tree.{Word, Tree, ins_of}
use Rattle.run_model.specs.Run.{Event}
use Rattle.event_list.specs.Events.{events_of}
use Rattle.event_list.specs.declared.refusal.EventRefusal.{EventRefusal}
use Rattle.model_text.specs.Drawings.{Drawing}
use Rattle.model_text.specs.ModelOf as model_file
use Rattle.model_text.specs.ModelOf.{ModelOf, model_of}
use Rattle.model_text.specs.LifeModel.{made_text}
use Rattle.model_text.specs.Refusals.{Refusal}
use Rattle.text_forms.specs.StateOf.{Saved, state_of}
use Rattle.text_forms.specs.declared.refusal.StateRefusal.{StateRefusal}
use Rattle.answer_model.specs.declared.status.Status.{Status}
use Rattle.answer_model.specs.declared.status.Status.TheVariants as exit
use Rattle.answer_model.specs.Refusals.{model_refused, events_refused, state_refused}
use Rattle.answer_model.specs.Options.{OptionRow}
use Rattle.answer_model.specs.Asked.{Asked, ModelSource, file, made, FramesFile, asked_by, usage_of}

-- what is asked for, with all that was read for it, and the files that were looked for
pub record Started : Type 0 where
  pub asked : Asked
  pub tree : Tree
  pub events : List Event
  -- the state that the run goes on from
  pub from : Option Saved
  pub inputs : List Word

-- what stops the reading
pub data Stop : Type 0 where
  -- with the form that words have
  bad_words : (form : Bytes) → Stop
  no_file : (name : Word) → Stop
  bad_model : (why : Refusal) → Stop
  bad_events : (why : EventRefusal) → Stop
  bad_state : (why : StateRefusal) → Stop

-- a stop, with the files that were looked for
pub record Stopped : Type 0 where
  pub why : Stop
  pub inputs : List Word

-- what is complained of a stop
abbrev pub line_of : Stop → Bytes
line_of (bad_words form) = codes "usage: " ++ form
line_of (no_file name) = codes "missing: " ++ name
line_of (bad_model why) = model_refused why
line_of (bad_events why) = events_refused why
line_of (bad_state why) = state_refused why

-- the status of a program that stops so
abbrev pub status_of : Stop → Status
status_of (bad_words form) = exit.Usage
status_of (no_file name) = exit.Missing
status_of (bad_model why) = exit.ModelRefused
status_of (bad_events why) = exit.EventsRefused
status_of (bad_state why) = exit.StateRefused

-- ---- one after another: the first that stops decides

-- the reading stops so, after these files were looked for
abbrev pub stops : {A : Type 0} → Stop → List Word → Result A Stopped
stops why inputs = Err (record { why = why; inputs = inputs })

-- what there is, or this stop
abbrev pub or_stops : {A : Type 0} → Stop → List Word → Option A → Result A Stopped
or_stops why inputs None = stops why inputs
or_stops why inputs (Some x) = Ok x

-- what was read, with the files looked for, or the stop of its refusal
abbrev pub read_or : {A E : Type 0} → (E → Stop) → List Word → Result A E
    → Result (A × List Word) Stopped
read_or why inputs (Ok x) = Ok (x, inputs)
read_or why inputs (Err e) = stops (why e) inputs

-- one thing of what goes on, and another of what stops
abbrev pub by : {A X : Type 0} → (Stopped → X) → Result A Stopped → (A → X) → X
by stopped (Ok x) go = go x
by stopped (Err e) go = stopped e

-- ---- the stages

-- what the words of a command ask for that has these options
abbrev pub words_read : List OptionRow → List Word → Result Asked Stopped
words_read rows words = or_stops (bad_words (usage_of rows)) [] (asked_by rows words)

-- the bytes of a file, which was looked for
abbrev pub file_read : Files → Word → List Word → Result (Bytes × List Word) Stopped
file_read files name inputs =
    for_ok (or_stops (no_file name) (inputs ++ name ∷ []) (files name))
    (λ bytes. Ok (bytes, inputs ++ name ∷ []))

-- the bytes of the model, from its file or made
abbrev pub source_read : ModelSource → Files → Result (Bytes × List Word) Stopped
source_read (file name) files = file_read files name []
source_read (made size) files = Ok (made_text size, [])

-- the tree of a model that is accepted
abbrev pub model_found : ModelOf → List Word → Result (Tree × List Word) Stopped
model_found (model_file.model tree) inputs = Ok (tree, inputs)
model_found (model_file.missing name) inputs = stops (no_file name) inputs
model_found (model_file.refused why) inputs = stops (bad_model why) inputs

-- what a file of frames draws
abbrev pub drawing_of : Option FramesFile → Option Drawing
drawing_of f = option_map (λ (f : FramesFile). f.drawing) f

-- the tree of the model that is asked for
abbrev pub model_read : Asked → Files → List Class → Result (Tree × List Word) Stopped
model_read a files classes =
    for_ok (source_read a.source files) (λ (bytes, inputs).
    let read = model_of bytes files classes (drawing_of a.frames) in
    model_found read.found (inputs ++ read.looked))

-- what a file gives that may be asked for
abbrev pub if_named : {A E : Type 0} → A → (Bytes → Result A E) → (E → Stop) → Files → List Word
    → Option Word → Result (A × List Word) Stopped
if_named without read why files inputs None = Ok (without, inputs)
if_named without read why files inputs (Some name) =
    for_ok (file_read files name inputs) (λ (bytes, looked). read_or why looked (read bytes))

-- the events that are asked for; none without a file
abbrev pub events_read : Asked → Files → Tree → List Word
    → Result (List Event × List Word) Stopped
events_read a files tree inputs =
    if_named [] (λ bytes. events_of bytes (ins_of tree)) bad_events files inputs a.events

-- a state that is read
abbrev pub there : {A E : Type 0} → Result A E → Result (Option A) E
there (Ok x) = Ok (Some x)
there (Err e) = Err e

-- the state that the run goes on from, where one is asked for
abbrev pub state_read : Asked → Files → Tree → List Word
    → Result (Option Saved × List Word) Stopped
state_read a files tree inputs =
    if_named None (λ bytes. there (state_of bytes tree a.end)) bad_state files inputs a.state

-- ---- all of them: words, model, events, state

-- once the words are read
abbrev pub inputs_read : Asked → Files → List Class → Result Started Stopped
inputs_read a files classes =
    for_ok (model_read a files classes) (λ (tree, inputs).
    for_ok (events_read a files tree inputs) (λ (events, inputs).
    for_ok (state_read a files tree inputs) (λ (from, inputs).
    Ok (record { asked = a; tree = tree; events = events; from = from; inputs = inputs }))))

-- what is started by the words of a command that has these options, or what stops it
unfoldable pub started_by : List OptionRow → List Word → Files → List Class
    → Result Started Stopped
started_by rows words files classes =
    for_ok (words_read rows words) (λ a. inputs_read a files classes)
