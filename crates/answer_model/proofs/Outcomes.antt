-- What follows from an outcome.
use Rattle.std.proofs.Common.{◌≡◌, ◌≢◌, Bool, true, false, [], ◌∷◌, ◌++◌, refl, sym, ap, ◌∙◌, subst, inl, inr, ◌⊎◌}
use Rattle.std.specs.Bool.{OnFalse}
use Rattle.std.proofs.lemmas.List.{append-nil}
use Rattle.room_edge.specs.Faults.{Rose}
use Rattle.room_edge.specs.Outside.{Outside, streams}
use Rattle.room_edge.proofs.Adding.{streams-nil}
use Rattle.answer_model.specs.Answer.{MadeFiles, Answer, names}
use Rattle.answer_model.specs.Headline.{puts_all, BeginFiles, Writes, WritesPart}
use Rattle.answer_model.specs.LastPieces.{ShowsLast, WritesNothing}
use Rattle.answer_model.specs.Outcome.{Did, HasMore, Outcome, Ending, as_answered, reading_failed, writing_failed, complaining_failed, memory_failed, IsBegun}
use Rattle.answer_model.specs.OutcomeLaws.{IsOwn, Complains, FollowsAnswer, IsComplete, IsExact, IsSure, OutcomeLaws}
use Rattle.answer_model.specs.Answer.{read_fault_line, write_fault_line}
use Rattle.answer_model.specs.FaultsAnswered.{NoReadFault, NoWriteFault, RunsOut, FailsAgain}
use Rattle.answer_model.specs.declared.status.Status.{Status}
use Rattle.answer_model.specs.declared.status.Status.TheVariants.{ReadFault, WriteFault, NoMemory}
use Rattle.answer_model.specs.Status.{status_row}
use Rattle.answer_model.specs.StatusNumbers.{of_faults}

-- ---- beginnings

all_begun : (files : MadeFiles) → BeginFiles files files
all_begun [] = tt
all_begun (f ∷ fs) = (refl, ([], sym (append-nil f.1)), all_begun fs)

pub whole_begun : (a : Answer) (did : Did) → did.made ≡ a.made → did.shown ≡ a.shown → IsBegun a did
whole_begun a did m s = (subst (λ fs. BeginFiles fs a.made) (sym m) (all_begun a.made), ([], sym s ∙ sym (append-nil did.shown)), inl m)

pub none_begun : (a : Answer) (did : Did) → did.made ≡ [] → did.shown ≡ [] → IsBegun a did
none_begun a did m s = (subst (λ fs. BeginFiles fs a.made) (sym m) tt, (a.shown, ap (λ bs. bs ++ a.shown) (sym s)), inr s)

-- ---- what was done, outside

pub writes : (a : Answer) (old new : Outside) (did : Did) → HasMore did old new → did.made ≡ a.made → did.shown ≡ a.shown → did.complained ≡ a.complained → Writes a old new a.status
writes a old new did more m s c =
    record {
      status = refl;
      made = more.made ∙ ap (puts_all old.made) m;
      created = more.created ∙ ap (λ (fs : MadeFiles). old.created ++ names fs) m;
      shown = more.shown ∙ ap (streams old.shown) s;
      complained = more.complained ∙ ap (streams old.complained) c;
    }

writes_part : (a : Answer) (old new : Outside) (did : Did) → HasMore did old new → IsBegun a did → WritesPart a old new
writes_part a old new did more begun =
    record { files = (did.made, begun.0, more.made, more.created); shown = (did.shown, begun.1, more.shown) }

shows_last : (a : Answer) (old new : Outside) (did : Did) → HasMore did old new → (did.made ≡ a.made) ⊎ (did.shown ≡ []) → ShowsLast a old new
shows_last a old new did more (inl m) = inl (more.made ∙ ap (puts_all old.made) m)
shows_last a old new did more (inr s) = inr (more.shown ∙ ap (streams old.shown) s ∙ streams-nil old.shown)

writes_nothing : (old new : Outside) (did : Did) → HasMore did old new → did.made ≡ [] → did.shown ≡ [] → WritesNothing old new
writes_nothing old new did more m s =
    record {
      made = more.made ∙ ap (puts_all old.made) m;
      created = more.created ∙ ap (λ (fs : MadeFiles). old.created ++ names fs) m ∙ append-nil old.created;
      shown = more.shown ∙ ap (streams old.shown) s ∙ streams-nil old.shown;
    }

-- ---- ending by ending

on_false : (b : Bool) (P : Type 0) → P → OnFalse b P
on_false true P p = tt
on_false false P p = p

not_both : {A : Type 0} (b : Bool) → b ≡ true → b ≡ false → A
not_both true e f = absurd cc
not_both false e f = absurd cc

-- an answer's own status is none of a fault
not_own : {A : Type 0} (status fault : Status) → IsOwn status → of_faults (status_row fault).part ≡ true → status ≡ fault → A
not_own status fault own free e = not_both (of_faults (status_row fault).part) free (subst IsOwn e own)

begun_by : (a : Answer) (old new : Outside) (did : Did) (status : Status) → Ending a old new did status → IsBegun a did
begun_by a old new did _ (as_answered m s c) = whole_begun a did m s
begun_by a old new did _ (reading_failed rose m s l c) = none_begun a did m s
begun_by a old new did _ (writing_failed rose b l c) = b
begun_by a old new did _ (complaining_failed rose also b l c) = b
begun_by a old new did _ (memory_failed b l c) = b

own_by : (a : Answer) (old new : Outside) (did : Did) (status : Status) → HasMore did old new → Ending a old new did status → OnFalse (of_faults (status_row status).part) (Writes a old new status)
own_by a old new did _ more (as_answered m s c) = on_false (of_faults (status_row a.status).part) (Writes a old new a.status) (writes a old new did more m s c)
own_by a old new did _ more (reading_failed rose m s l c) = tt
own_by a old new did _ more (writing_failed rose b l c) = tt
own_by a old new did _ more (complaining_failed rose also b l c) = tt
own_by a old new did _ more (memory_failed b l c) = tt

nothing_by : (a : Answer) (old new : Outside) (did : Did) (status : Status) → IsOwn a.status → HasMore did old new → Ending a old new did status → status ≡ ReadFault → WritesNothing old new
nothing_by a old new did _ own more (as_answered m s c) = not_own a.status ReadFault own refl
nothing_by a old new did _ own more (reading_failed rose m s l c) = λ e. writes_nothing old new did more m s
nothing_by a old new did _ own more (writing_failed rose b l c) = λ e. absurd cc
nothing_by a old new did _ own more (complaining_failed rose also b l c) = λ e. absurd cc
nothing_by a old new did _ own more (memory_failed b l c) = λ e. absurd cc

read_by : (a : Answer) (old new : Outside) (did : Did) (status : Status) → IsOwn a.status → Ending a old new did status → status ≡ ReadFault → Rose old.read_faults new.read_faults
read_by a old new did _ own (as_answered m s c) = not_own a.status ReadFault own refl
read_by a old new did _ own (reading_failed rose m s l c) = λ e. rose
read_by a old new did _ own (writing_failed rose b l c) = λ e. absurd cc
read_by a old new did _ own (complaining_failed rose also b l c) = λ e. absurd cc
read_by a old new did _ own (memory_failed b l c) = λ e. absurd cc

write_by : (a : Answer) (old new : Outside) (did : Did) (status : Status) → IsOwn a.status → Ending a old new did status → status ≡ WriteFault → Rose old.write_faults new.write_faults
write_by a old new did _ own (as_answered m s c) = not_own a.status WriteFault own refl
write_by a old new did _ own (reading_failed rose m s l c) = λ e. absurd cc
write_by a old new did _ own (writing_failed rose b l c) = λ e. rose
write_by a old new did _ own (complaining_failed rose also b l c) = λ e. rose
write_by a old new did _ own (memory_failed b l c) = λ e. absurd cc

complains_by : (a : Answer) (old new : Outside) (did : Did) (status : Status) → IsOwn a.status → HasMore did old new → Ending a old new did status → Complains a old new did status
complains_by a old new did _ own more (as_answered m s c) =
    record { more = more; at_read_fault = not_own a.status ReadFault own refl; at_write_fault = not_own a.status WriteFault own refl; at_no_memory = not_own a.status NoMemory own refl }
complains_by a old new did _ own more (reading_failed {name} rose m s l c) =
    record { more = more; at_read_fault = λ e. (name, l, c); at_write_fault = λ e. absurd cc; at_no_memory = λ e. absurd cc }
complains_by a old new did _ own more (writing_failed {name} rose b l c) =
    record { more = more; at_read_fault = λ e. absurd cc; at_write_fault = λ e. inl (name, l, c); at_no_memory = λ e. absurd cc }
complains_by a old new did _ own more (complaining_failed {line} rose also b l c) =
    record { more = more; at_read_fault = λ e. absurd cc; at_write_fault = λ e. inr (also, (line, l, c)); at_no_memory = λ e. absurd cc }
complains_by a old new did _ own more (memory_failed {line} b l c) =
    record { more = more; at_read_fault = λ e. absurd cc; at_write_fault = λ e. absurd cc; at_no_memory = λ e. (line, l, c) }

follows : (a : Answer) (old new : Outside) (status : Status) → IsOwn a.status → Outcome a old new status → FollowsAnswer a old new status
follows a old new status own o =
    record {
      own = own_by a old new o.did status o.more o.ending;
      part = writes_part a old new o.did o.more (begun_by a old new o.did status o.ending);
      turn = shows_last a old new o.did o.more (begun_by a old new o.did status o.ending).2;
      tried = (o.did.tried, o.inputs, o.more.tried);
      nothing = nothing_by a old new o.did status own o.more o.ending;
      complains = (o.did, complains_by a old new o.did status own o.more o.ending);
      read_fault = read_by a old new o.did status own o.ending;
      write_fault = write_by a old new o.did status own o.ending;
    }

-- ---- without a fault; and where nothing is free

complete_by : (a : Answer) (old new : Outside) (did : Did) (status : Status) → Ending a old new did status → ¬ Rose old.read_faults new.read_faults → ¬ Rose old.write_faults new.write_faults → (status ≡ a.status) ⊎ (status ≡ NoMemory)
complete_by a old new did _ (as_answered m s c) r w = inl refl
complete_by a old new did _ (reading_failed rose m s l c) r w = absurd (r rose)
complete_by a old new did _ (writing_failed rose b l c) r w = absurd (w rose)
complete_by a old new did _ (complaining_failed rose also b l c) r w = absurd (w rose)
complete_by a old new did _ (memory_failed b l c) r w = inr refl

is_complete : IsComplete
is_complete a old new status o = complete_by a old new o.did status o.ending

exact_by : (a : Answer) (old new : Outside) (did : Did) (status : Status) → HasMore did old new → Ending a old new did status → status ≢ ReadFault → status ≢ WriteFault → status ≢ NoMemory → Writes a old new status
exact_by a old new did _ more (as_answered m s c) p q r = writes a old new did more m s c
exact_by a old new did _ more (reading_failed rose m s l c) p q r = absurd (p refl)
exact_by a old new did _ more (writing_failed rose b l c) p q r = absurd (q refl)
exact_by a old new did _ more (complaining_failed rose also b l c) p q r = absurd (q refl)
exact_by a old new did _ more (memory_failed b l c) p q r = absurd (r refl)

is_exact : IsExact
is_exact a old new status o = exact_by a old new o.did status o.more o.ending

-- ---- faults

read_sure : (old new : Outside) (status : Status) → IsOwn status → NoReadFault old new ⊎ FailsAgain old new status ⊎ RunsOut read_fault_line old new status → NoReadFault old new
read_sure old new status own (inl sure) = sure
read_sure old new status own (inr (inl again)) = not_own status WriteFault own refl again.0
read_sure old new status own (inr (inr out)) = not_own status NoMemory own refl out.0

write_sure : (old new : Outside) (status : Status) → IsOwn status → NoWriteFault old new ⊎ RunsOut write_fault_line old new status → NoWriteFault old new
write_sure old new status own (inl sure) = sure
write_sure old new status own (inr out) = not_own status NoMemory own refl out.0

is_sure : IsSure
is_sure = λ old new status own a.
    record {
      reads = read_sure old new status own (a.read (not_own status ReadFault own refl));
      writes = write_sure old new status own (a.write (not_own status WriteFault own refl));
      complaints = a.complaint (not_own status WriteFault own refl);
    }

pub outcome_laws : OutcomeLaws
outcome_laws = record { follow = follows; complete = is_complete; exact = is_exact; sure = is_sure }
