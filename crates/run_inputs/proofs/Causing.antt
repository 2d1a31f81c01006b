-- The causes of a status where something can't be read.
use Rattle.std.proofs.Common.{refl, sym, ◌∙◌, subst, arith}
use Rattle.room_edge.specs.FaultCounts.{KeepsMisses}
use Rattle.room_edge.specs.Outside.{Outside}
use Rattle.room_edge.specs.Only.{OnlyInput}
use Rattle.event_list.specs.declared.refusal.EventRefusal.{EventRefusal}
use Rattle.event_list.specs.declared.refusal.EventRefusal.TheVariants as E
use Rattle.text_forms.specs.declared.refusal.StateRefusal.{StateRefusal}
use Rattle.text_forms.specs.declared.refusal.StateRefusal.TheVariants as S
use Rattle.answer_model.specs.declared.status.Status.{Status}
use Rattle.answer_model.specs.declared.status.Status.TheVariants as exit
use Rattle.answer_model.specs.Status.{of_reading}
use Rattle.answer_model.specs.OutcomeLaws.{EndsBy}
use Rattle.answer_model.specs.FaultsAnswered.{NoReadFault}
use Rattle.answer_model.proofs.FaultLemmas.{clean_read}
use Rattle.answer_model.proofs.Causing.{memory_ends, said_ends}
use Rattle.run_inputs.specs.Unread.{TellsNothing, TellsEvents, TellsState}

-- ---- of a stage

-- memory ran out after something was read
pub nothing_told : (old mid new : Outside) (s : Status) → OnlyInput old mid → NoReadFault old mid → TellsNothing mid new s → EndsBy of_reading old new s
nothing_told old mid new s only sure (own, same) =
    subst (EndsBy of_reading old new) (sym own) (subst (λ (o : Outside). EndsBy of_reading old o exit.NoMemory) (sym same) (memory_ends of_reading old mid refl (clean_read old mid only sure)))

pub events_told : (reason : EventRefusal) (old mid new : Outside) (s : Status) → OnlyInput old mid → NoReadFault old mid → TellsEvents reason mid new s → EndsBy of_reading old new s
events_told (E.BadEventLine line) old mid new s only sure says = said_ends of_reading _ exit.EventsRefused old mid new s refl refl tt only sure says
events_told (E.UnknownPort line) old mid new s only sure says = said_ends of_reading _ exit.EventsRefused old mid new s refl refl tt only sure says
events_told (E.TooLarge line) old mid new s only sure says = said_ends of_reading _ exit.EventsRefused old mid new s refl refl tt only sure says
events_told E.Memory old mid new s only sure tells = nothing_told old mid new s only sure tells

pub state_told : (reason : StateRefusal) (old mid new : Outside) (s : Status) → OnlyInput old mid → NoReadFault old mid → TellsState reason mid new s → EndsBy of_reading old new s
state_told (S.BadStateLine line) old mid new s only sure says = said_ends of_reading _ exit.StateRefused old mid new s refl refl tt only sure says
state_told (S.EndBefore line) old mid new s only sure says = said_ends of_reading _ exit.StateRefused old mid new s refl refl tt only sure says
state_told (S.TooLarge line) old mid new s only sure says = said_ends of_reading _ exit.StateRefused old mid new s refl refl tt only sure says
state_told S.Memory old mid new s only sure tells = nothing_told old mid new s only sure tells

-- ---- one reading after another

pub only_then : (old mid new : Outside) → OnlyInput old mid → OnlyInput mid new → OnlyInput old new
only_then old mid new first second =
    record {
      files = second.files ∙ first.files;
      made = second.made ∙ first.made;
      shown = second.shown ∙ first.shown;
      complained = second.complained ∙ first.complained;
      write_faults = second.write_faults ∙ first.write_faults;
      complain_faults = second.complain_faults ∙ first.complain_faults;
      created = second.created ∙ first.created;
    }

pub misses_then : (old mid new : Outside) → KeepsMisses old mid → KeepsMisses mid new → KeepsMisses old new
misses_then old mid new first second = omega (arith, first, second)

pub misses_kept : (o : Outside) → KeepsMisses o o
misses_kept o = omega arith
