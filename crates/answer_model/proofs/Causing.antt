-- The causes of a status, stage by stage.
use Rattle.std.proofs.Common.{◌≡◌, Bool, true, false, refl, sym, ◌∙◌, subst, arith}
use Rattle.std.specs.Prelude.{codes}
use Rattle.quantity.specs.Bytes.{Bytes}
use Rattle.model_tree.specs.Tree.{Word}
use Rattle.room_edge.specs.Faults.{Rose, ReadFaultCounted, WriteFaultCounted}
use Rattle.room_edge.specs.FaultCounts.{KeepsMisses, KeepsReadFaults, KeepsWriteFaults}
use Rattle.room_edge.specs.Outside.{Outside}
use Rattle.room_edge.specs.Only.{OnlyInput, OnlyComplained}
use Rattle.answer_model.specs.Answer.{read_fault_line, write_fault_line}
use Rattle.answer_model.specs.declared.status.Status.{Status}
use Rattle.answer_model.specs.declared.status.Status.TheVariants as exit
use Rattle.answer_model.specs.Status.{Stage, at_words, at_files, at_reads, at_inputs, at_state, at_log, in_run, at_end, anywhere, Cause, no_cause, words_refused, a_miss, a_read_fault, a_write_fault, status_row, IsOf, of_run, of_reading, of_cdpp, CameAbout, IsCaused}
use Rattle.answer_model.specs.Endings.{Says, whole, cut, unsaid, ShowsEnd, all_shown, stopped, unshown}
use Rattle.answer_model.specs.LastPieces.{WritesNothing}
use Rattle.answer_model.specs.OutcomeLaws.{EndsBy}
use Rattle.answer_model.specs.FaultsAnswered.{NoReadFault, AnswersFaults}
use Rattle.answer_model.proofs.FaultLemmas.{IsClean, clean_read, clean_answers, then_answers, said_answers, read_answers}
use Rattle.answer_model.proofs.Endings.{rose_later, rose_kept, le_more, same_kept}
use Rattle.answer_model.proofs.Said.{said_among, said_only}

-- ---- parts

not_both : (b : Bool) → b ≡ true → b ≡ false → ⊥
not_both true e f = cc
not_both false e f = cc

-- a status is none that is of other parts
pub not_of : (of : Stage → Bool) (status other : Status) → IsOf of status → of (status_row other).part ≡ false → status ≡ other → ⊥
not_of of status other known off e = not_both (of (status_row other).part) (subst (IsOf of) e known) off

run_reads : (part : Stage) → of_run part ≡ true → of_reading part ≡ true
run_reads at_words e = e
run_reads at_files e = refl
run_reads at_reads e = refl
run_reads at_inputs e = refl
run_reads at_state e = refl
run_reads at_log e = e
run_reads in_run e = refl
run_reads at_end e = refl
run_reads anywhere e = refl

reading_is : (part : Stage) → of_reading part ≡ true → of_cdpp part ≡ true
reading_is at_words e = refl
reading_is at_files e = refl
reading_is at_reads e = refl
reading_is at_inputs e = refl
reading_is at_state e = refl
reading_is at_log e = e
reading_is in_run e = refl
reading_is at_end e = refl
reading_is anywhere e = refl

pub read_known : (status : Status) → IsOf of_reading status → IsOf of_cdpp status
read_known status known = reading_is (status_row status).part known

-- ---- causes

-- whatever else is said of the words
pub cause_for : (P Q : Type 0) (old new : Outside) (c : Cause) → (P → Q) → CameAbout P old new c → CameAbout Q old new c
cause_for P Q old new no_cause go came = tt
cause_for P Q old new words_refused go came = go came
cause_for P Q old new a_miss go came = came
cause_for P Q old new a_read_fault go came = came
cause_for P Q old new a_write_fault go came = came

-- after something was read
cause_later : (P : Type 0) (old mid new : Outside) (c : Cause) → OnlyInput old mid → KeepsMisses old mid → KeepsReadFaults old mid → CameAbout P mid new c → CameAbout P old new c
cause_later P old mid new no_cause only misses faults came = tt
cause_later P old mid new words_refused only misses faults came = came
cause_later P old mid new a_miss only misses faults came = rose_later old.misses mid.misses new.misses misses came
cause_later P old mid new a_read_fault only misses faults came = rose_later old.read_faults mid.read_faults new.read_faults faults came
cause_later P old mid new a_write_fault only misses faults came = subst (λ n. Rose n new.write_faults) only.write_faults came

-- before a line
cause_kept : (P : Type 0) (old mid new : Outside) (c : Cause) → OnlyComplained mid new → KeepsWriteFaults mid new → CameAbout P old mid c → CameAbout P old new c
cause_kept P old mid new no_cause only keeps came = tt
cause_kept P old mid new words_refused only keeps came = came
cause_kept P old mid new a_miss only keeps came = subst (Rose old.misses) (sym only.output.misses) came
cause_kept P old mid new a_read_fault only keeps came = subst (Rose old.read_faults) (sym only.output.read_faults) came
cause_kept P old mid new a_write_fault only keeps came = rose_kept old.write_faults mid.write_faults new.write_faults came keeps

-- of a line: that of its own status, or of the fault of writing it
pub said_caused : (P : Type 0) (line : Bytes) (own : Status) (old mid new : Outside) (status : Status) → KeepsWriteFaults old mid → IsCaused P old mid own → Says line own mid new status → IsCaused P old new status
said_caused P line own old mid new _ before came (whole said writes complaints) = cause_kept P old mid new (status_row own).cause said.1 (same_kept mid.write_faults new.write_faults writes) came
said_caused P line own old mid new _ before came (cut part short said writes complaints) = rose_later old.write_faults mid.write_faults new.write_faults before writes
said_caused P line own old mid new _ before came (unsaid part begins said writes complaints) = tt

-- of the last bytes that are shown
pub shown_caused : (P : Type 0) (bytes : Bytes) (old mid new : Outside) (status : Status) → KeepsWriteFaults old mid → ShowsEnd bytes exit.Done mid new status → IsCaused P old new status
shown_caused P bytes old mid new _ before (all_shown showed keeps) = tt
shown_caused P bytes old mid new status before (stopped part end short showed keeps rose says) =
    said_caused P (write_fault_line (codes "standard output")) exit.WriteFault old end new status (le_more old.write_faults mid.write_faults end.write_faults before keeps)
    (rose_later old.write_faults mid.write_faults end.write_faults before rose) says
shown_caused P bytes old mid new _ before (unshown part begins showed keeps) = tt

-- of a run
run_caused : (P : Type 0) (old new : Outside) (status : Status) → IsOf of_run status → (status ≡ exit.WriteFault → WriteFaultCounted old new) → IsCaused P old new status
run_caused P old new exit.Done known write = tt
run_caused P old new exit.Usage known write = absurd cc
run_caused P old new exit.Missing known write = absurd cc
run_caused P old new exit.ReadFault known write = absurd cc
run_caused P old new exit.WriteFault known write = write refl
run_caused P old new exit.ModelRefused known write = tt
run_caused P old new exit.EventsRefused known write = tt
run_caused P old new exit.NoTrueRule known write = tt
run_caused P old new exit.Overflow known write = tt
run_caused P old new exit.BadDelay known write = tt
run_caused P old new exit.TooManyCycles known write = tt
run_caused P old new exit.NoMemory known write = tt
run_caused P old new exit.LogRefused known write = tt
run_caused P old new exit.StateRefused known write = tt

-- ---- stages

-- a run
pub run_ends : (old new : Outside) (status : Status) → IsOf of_run status → (status ≡ exit.WriteFault → WriteFaultCounted old new) → AnswersFaults old new status → EndsBy of_reading old new status
run_ends old new status known write faults =
    record {
      known = run_reads (status_row status).part known;
      cause = run_caused ⊥ old new status known write;
      faults = faults;
      nothing = λ e. absurd (not_of of_run status exit.ReadFault known refl e);
    }

-- memory ran out
pub memory_ends : (of : Stage → Bool) (old new : Outside) → of anywhere ≡ true → IsClean old new → EndsBy of old new exit.NoMemory
memory_ends of old new known clean = record { known = known; cause = tt; faults = clean_answers old new exit.NoMemory clean; nothing = λ e. absurd cc }

pub nothing_read : (o : Outside) → OnlyInput o o
nothing_read o = record { files = refl; made = refl; shown = refl; complained = refl; write_faults = refl; complain_faults = refl; created = refl }

-- after something was read
pub later_ends : (of : Stage → Bool) (old mid new : Outside) (status : Status) → OnlyInput old mid → KeepsMisses old mid → NoReadFault old mid → EndsBy of mid new status → EndsBy of old new status
later_ends of old mid new status only misses sure ends =
    record {
      known = ends.known;
      cause = cause_later ⊥ old mid new (status_row status).cause only misses (same_kept old.read_faults mid.read_faults sure) ends.cause;
      faults = then_answers old mid new status (clean_read old mid only sure) ends.faults;
      nothing = λ e. nothing_later (ends.nothing e);
    }
  where
    nothing_later : WritesNothing mid new → WritesNothing old new
    nothing_later n = record { made = n.made ∙ only.made; created = n.created ∙ only.created; shown = n.shown ∙ only.shown }

-- nothing is written by reading and a line
pub nothing_written : (line : Bytes) (own : Status) (old mid new : Outside) (status : Status) → OnlyInput old mid → Says line own mid new status → WritesNothing old new
nothing_written line own old mid new status only says =
    let said = said_only line own mid new status says in
    record { made = said.made ∙ only.made; created = said.created ∙ only.created; shown = said.shown ∙ only.shown }

-- a line after something was read
pub said_ends : (of : Stage → Bool) (line : Bytes) (own : Status) (old mid new : Outside) (status : Status) → IsOf of own → of anywhere ≡ true → IsCaused ⊥ old mid own → OnlyInput old mid → NoReadFault old mid → Says line own mid new status
    → EndsBy of old new status
said_ends of line own old mid new status known any came only sure says =
    record {
      known = said_among of line own mid new status known any any says;
      cause = said_caused ⊥ line own old mid new status (omega (arith, only.write_faults)) came says;
      faults = then_answers old mid new status (clean_read old mid only sure) (said_answers line own mid new status says);
      nothing = λ e. nothing_written line own old mid new status only says;
    }

-- a line of a read that failed
pub unread_ends : (of : Stage → Bool) (name : Word) (old mid new : Outside) (status : Status) → of at_reads ≡ true → of anywhere ≡ true → ReadFaultCounted old mid → OnlyInput old mid → Says (read_fault_line name) exit.ReadFault mid new status
    → EndsBy of old new status
unread_ends of name old mid new status known any rose only says =
    let line = read_fault_line name in
    record {
      known = said_among of line exit.ReadFault mid new status known any any says;
      cause = said_caused ⊥ line exit.ReadFault old mid new status (omega (arith, only.write_faults)) rose says;
      faults = read_answers name old mid new status only says;
      nothing = λ e. nothing_written line exit.ReadFault old mid new status only says;
    }
