-- What the reading of the files of a run comes to, beside its model.
use Rattle.std.specs.Prelude.{◌≡◌, ℕ, ◌+◌, ◌<◌, ◌⊎◌, List, ◌∷◌, ◌++◌, length, Vec, []}
use Rattle.std.specs.Prelude.{Option, Some, None, IfSome, Result, Ok, Err}
use Rattle.std.specs.declared.alloc.Global.{Global}
use Rattle.quantity.specs.Bytes.{Bytes}
use Rattle.source_text.specs.Lines.{Files}
use Rattle.room_edge.specs.Faults.{ReadFaultCounted}
use Rattle.room_edge.specs.FaultCounts.{KeepsMisses}
use Rattle.room_edge.specs.Outside.{Outside}
use Rattle.model_tree.specs.Tree.{Word}
use Rattle.run_model.specs.Run.{Event}
use Rattle.event_list.specs.Events.{events_of}
use Rattle.answer_model.specs.declared.status.Status.{Status}
use Rattle.answer_model.specs.Status.{of_reading}
use Rattle.answer_model.specs.Answer.{Answer}
use Rattle.answer_model.specs.Started.{Stopped, bad_events, by, if_named}
use Rattle.answer_model.specs.Cdpp.{stop_answer}
use Rattle.answer_model.specs.Endings.{looked_for, LeadsTo, EndsWith}
use Rattle.answer_model.specs.FaultsAnswered.{NoReadFault}
use Rattle.answer_model.specs.Headline.{Begins}
use Rattle.answer_model.specs.OutcomeLaws.{EndsBy}
use Rattle.run_inputs.specs.declared.unread.Unread.{Unread}
use Rattle.run_inputs.specs.declared.unread.Unread.TheVariants as unread
use Rattle.run_inputs.specs.Unread.{TellsUnread}

-- what goes on has looked for the names that were looked for before it
abbrev pub GoesOn : {A : Type 0} → (A × List Word → Answer) → Type 0
GoesOn {A} go = (p : A × List Word) → Begins p.1 (go p).inputs

-- where these files were looked for, these are now
abbrev pub LooksFor : List Word → List Word → Outside → Outside → Type 0
LooksFor inputs more old new =
    (a : Answer) → Begins more a.inputs → LeadsTo a (looked_for inputs) (looked_for more) old new

-- once it is told why there is nothing, the end of what goes on with what a reading gives
abbrev pub EndsUnread : {A : Type 0} → (List Word → Result (A × List Word) Stopped) → Unread
    → Outside → Outside → Type 0
EndsUnread {A} gives why old new =
    (inputs : List Word) (go : A × List Word → Answer) → GoesOn go
    → (after : Outside) (status : Status) → TellsUnread why new after status
    → EndsWith (by stop_answer (gives inputs) go) (looked_for inputs) old after status

-- why a file of this name was not read: it is missing, its read failed, or memory ran out, maybe
-- before it was looked for
abbrev pub IsUnread : Word → Files → Outside → Outside → Unread → Type 0
IsUnread name files old new (unread.Missing n) =
    (n ≡ name) × (files name ≡ None) × (new.tried ≡ old.tried ++ name ∷ [])
IsUnread name files old new (unread.ReadFault n) =
    (n ≡ name) × ReadFaultCounted old new × (new.tried ≡ old.tried ++ name ∷ [])
IsUnread name files old new unread.Memory =
    (new.tried ≡ old.tried) ⊎ (new.tried ≡ old.tried ++ name ∷ [])
IsUnread name files old new why = ⊥

-- its bytes, or none where it has more than so many; or why it was not read
abbrev pub HasText : Word → ℕ → Files → Outside → Outside
    → Result (Option (Vec ℕ Global)) Unread → Type 0
HasText name longest files old new (Ok (Some bytes)) =
    (files name ≡ Some bytes.items) × (new.tried ≡ old.tried ++ name ∷ [])
HasText name longest files old new (Ok None) =
    (bytes : Bytes) × (files name ≡ Some bytes) × (longest < length bytes)
    × (new.tried ≡ old.tried ++ name ∷ [])
HasText name longest files old new (Err why) = IsUnread name files old new why

-- the same where the files are told
abbrev pub ReadsText : Word → ℕ → Outside → Outside
    → Result (Option (Vec ℕ Global)) Unread → Type 0
ReadsText name longest old new result =
    IfSome old.files (λ files. HasText name longest files old new result)

-- those of a file, where one is named, with the files looked for
abbrev pub events_in : List Bytes → Files → List Word → Option Word
    → Result (List Event × List Word) Stopped
events_in ports files inputs name =
    if_named [] (λ bytes. events_of bytes ports) bad_events files inputs name

-- there are events, and their file was looked for; or, once it is told why there are none, the end
abbrev pub ReadsEvents : Option Word → List Bytes → Files → Outside → Outside
    → Result (List Event) Unread → Type 0
ReadsEvents name ports files old new (Ok events) =
    (inputs : List Word)
    → (more : List Word) × (events_in ports files inputs name ≡ Ok (events, more))
    × LooksFor inputs more old new
ReadsEvents name ports files old new (Err why) =
    EndsUnread (λ inputs. events_in ports files inputs name) why old new

-- the same where the files are told
abbrev pub ReadsToldEvents : Option Word → List Bytes → Outside → Outside
    → Result (List Event) Unread → Type 0
ReadsToldEvents name ports old new result =
    IfSome old.files (λ files. ReadsEvents name ports files old new result)

-- no miss is forgotten, and no fault was counted; or, once it is told why there is nothing, the
-- causes of the end
abbrev pub ReadCauses : {A : Type 0} → Outside → Outside → Result A Unread → Type 0
ReadCauses old new (Ok x) = KeepsMisses old new × NoReadFault old new
ReadCauses old new (Err why) =
    (after : Outside) (status : Status) → TellsUnread why new after status
    → EndsBy of_reading old after status
