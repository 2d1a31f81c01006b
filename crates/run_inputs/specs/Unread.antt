-- Private: what is told where nothing is read that a run could start from.
use Rattle.std.specs.Prelude.{◌≡◌}
use Rattle.room_edge.specs.Outside.{Outside}
use Rattle.event_list.specs.declared.refusal.EventRefusal.{EventRefusal}
use Rattle.event_list.specs.declared.refusal.EventRefusal.TheVariants as E
use Rattle.text_forms.specs.declared.refusal.StateRefusal.{StateRefusal}
use Rattle.text_forms.specs.declared.refusal.StateRefusal.TheVariants as S
use Rattle.text_forms.specs.Lines.{line_with_end}
use Rattle.model_text.specs.Refusals.{refusal}
use Rattle.answer_model.specs.declared.status.Status.{Status}
use Rattle.answer_model.specs.declared.status.Status.TheVariants as exit
use Rattle.answer_model.specs.Answer.{read_fault_line}
use Rattle.answer_model.specs.ByWords.{usage}
use Rattle.answer_model.specs.Started.{Stop, bad_words, no_file, bad_model, bad_events, bad_state}
use Rattle.answer_model.specs.Started.{line_of, status_of}
use Rattle.answer_model.specs.Endings.{Says}
use Rattle.run_inputs.specs.declared.unread.Unread.{Unread}
use Rattle.run_inputs.specs.declared.unread.Unread.TheVariants as why

-- the line of a stop is said
abbrev pub TellsStop : Stop → Outside → Outside → Status → Type 0
TellsStop stop old new status = Says (line_with_end (line_of stop)) (status_of stop) old new status

-- for want of memory there is no line
abbrev pub TellsNothing : Outside → Outside → Status → Type 0
TellsNothing old new status = (status ≡ exit.NoMemory) × (new ≡ old)

-- why there are no events
abbrev pub TellsEvents : EventRefusal → Outside → Outside → Status → Type 0
TellsEvents (E.BadEventLine line) old new status =
    TellsStop (bad_events (E.BadEventLine line)) old new status
TellsEvents (E.UnknownPort line) old new status =
    TellsStop (bad_events (E.UnknownPort line)) old new status
TellsEvents (E.TooLarge line) old new status =
    TellsStop (bad_events (E.TooLarge line)) old new status
TellsEvents E.Memory old new status = TellsNothing old new status

-- why a state is refused
abbrev pub TellsState : StateRefusal → Outside → Outside → Status → Type 0
TellsState (S.BadStateLine line) old new status =
    TellsStop (bad_state (S.BadStateLine line)) old new status
TellsState (S.EndBefore line) old new status =
    TellsStop (bad_state (S.EndBefore line)) old new status
TellsState (S.TooLarge line) old new status =
    TellsStop (bad_state (S.TooLarge line)) old new status
TellsState S.Memory old new status = TellsNothing old new status

-- a line tells why
abbrev pub TellsUnread : Unread → Outside → Outside → Status → Type 0
TellsUnread why.Usage old new status = TellsStop (bad_words usage) old new status
TellsUnread (why.Missing name) old new status = TellsStop (no_file name) old new status
TellsUnread (why.ReadFault name) old new status =
    Says (read_fault_line name) exit.ReadFault old new status
TellsUnread (why.Model line kind) old new status =
    TellsStop (bad_model (refusal line kind)) old new status
TellsUnread (why.Events refusal) old new status = TellsEvents refusal old new status
TellsUnread (why.State refusal) old new status = TellsState refusal old new status
TellsUnread why.Memory old new status = TellsNothing old new status
