-- Faults that were counted, stage by stage.
use Rattle.std.proofs.Common.{◌≡◌, ◌⊎◌, inl, inr, refl, ap, ◌∙◌, subst}
use Rattle.std.specs.Prelude.{codes}
use Rattle.quantity.specs.Bytes.{Bytes}
use Rattle.model_tree.specs.Tree.{Word}
use Rattle.room_edge.specs.Faults.{Rose}
use Rattle.room_edge.specs.FaultCounts.{ComplaintFaultCounted}
use Rattle.room_edge.specs.Outside.{Outside, streams}
use Rattle.room_edge.specs.Only.{OnlyInput}
use Rattle.answer_model.specs.declared.status.Status.{Status}
use Rattle.answer_model.specs.declared.status.Status.TheVariants.{ReadFault, WriteFault}
use Rattle.answer_model.specs.Answer.{read_fault_line, write_fault_line}
use Rattle.answer_model.specs.FaultsAnswered.{NoWriteFault, NoComplaintFault, NoReadFault, RunsOut, FailsAgain, AnswersFaults}
use Rattle.answer_model.specs.Endings.{Says, whole, cut, unsaid, ShowsEnd, all_shown, stopped, unshown}

-- no fault was counted, and nothing was complained
pub record IsClean (old new : Outside) : Type 0 where
  pub writes : NoWriteFault old new
  pub complaints : NoComplaintFault old new
  pub reads : NoReadFault old new
  pub quiet : new.complained ≡ old.complained

pub nothing_done : (now : Outside) → IsClean now now
nothing_done now = record { writes = refl; complaints = refl; reads = refl; quiet = refl }

-- something was read without a fault
pub clean_read : (old new : Outside) → OnlyInput old new → NoReadFault old new → IsClean old new
clean_read old new only sure = record { writes = only.write_faults; complaints = only.complain_faults; reads = sure; quiet = only.complained }

pub clean_answers : (old new : Outside) (status : Status) → IsClean old new → AnswersFaults old new status
clean_answers old new status c = record { complaint = λ other. c.complaints; write = λ other. inl c.writes; read = λ other. inl c.reads }

-- a fault of writing was counted, and nothing was complained
pub record IsStopped (old mid : Outside) : Type 0 where
  pub complaints : NoComplaintFault old mid
  pub reads : NoReadFault old mid
  pub quiet : mid.complained ≡ old.complained

-- what was complained behind what is the same
runs_out : (old mid new : Outside) (part : Bytes) → mid.complained ≡ old.complained → new.complained ≡ streams mid.complained part → new.complained ≡ streams old.complained part
runs_out old mid new part same said = said ∙ ap (λ c. streams c part) same

out_later : (line : Word → Bytes) (old mid new : Outside) (status : Status) → mid.complained ≡ old.complained → RunsOut line mid new status → RunsOut line old new status
out_later line old mid new status same (is, name, part, short, said) = (is, name, part, short, runs_out old mid new part same said)

-- a complaint failed after a moment up to which none had
again_later : (old mid new : Outside) → NoComplaintFault old mid → ComplaintFaultCounted mid new → ComplaintFaultCounted old new
again_later old mid new same rose = subst (λ n. Rose n new.complain_faults) same rose

fails_later : (old mid new : Outside) (status : Status) → NoComplaintFault old mid → FailsAgain mid new status → FailsAgain old new status
fails_later old mid new status same (is, rose) = (is, again_later old mid new same rose)

either_later : (P Q R S : Type 0) → (P → R) → (Q → S) → P ⊎ Q → R ⊎ S
either_later P Q R S f g (inl p) = inl (f p)
either_later P Q R S f g (inr q) = inr (g q)

-- behind a stage without a fault
pub then_answers : (old mid new : Outside) (status : Status) → IsClean old mid → AnswersFaults mid new status → AnswersFaults old new status
then_answers old mid new status c a =
    record {
      complaint = λ other. a.complaint other ∙ c.complaints;
      write = λ other. either_later _ _ _ _ (λ p. p ∙ c.writes) (out_later write_fault_line old mid new status c.quiet) (a.write other);
      read = λ other. either_later _ _ _ _ (λ p. p ∙ c.reads) (either_later _ _ _ _ (fails_later old mid new status c.complaints) (out_later read_fault_line old mid new status c.quiet)) (a.read other);
    }

-- a line that tells of no fault
pub said_answers : (line : Bytes) (own : Status) (old new : Outside) (status : Status) → Says line own old new status → AnswersFaults old new status
said_answers line own old new _ (whole said writes complaints) =
    record { complaint = λ other. complaints; write = λ other. inl writes; read = λ other. inl said.1.output.read_faults }
said_answers line own old new _ (cut part short said writes complaints) =
    record { complaint = λ other. absurd (other refl); write = λ other. absurd (other refl); read = λ other. inl said.1.output.read_faults }
said_answers line own old new _ (unsaid part short said writes complaints) =
    record { complaint = λ other. complaints; write = λ other. inl writes; read = λ other. inl said.1.output.read_faults }

-- a line that tells of a write that failed
pub wrote_answers : (name : Word) (old mid new : Outside) (status : Status) → IsStopped old mid → Says (write_fault_line name) WriteFault mid new status → AnswersFaults old new status
wrote_answers name old mid new _ s (whole said writes complaints) =
    record { complaint = λ other. absurd (other refl); write = λ other. absurd (other refl); read = λ other. inl (said.1.output.read_faults ∙ s.reads) }
wrote_answers name old mid new _ s (cut part short said writes complaints) =
    record { complaint = λ other. absurd (other refl); write = λ other. absurd (other refl); read = λ other. inl (said.1.output.read_faults ∙ s.reads) }
wrote_answers name old mid new _ s (unsaid part short said writes complaints) =
    record {
      complaint = λ other. complaints ∙ s.complaints;
      write = λ other. inr (refl, name, part, short, runs_out old mid new part s.quiet said.0);
      read = λ other. inl (said.1.output.read_faults ∙ s.reads);
    }

-- a line that tells of a read that failed
pub read_answers : (name : Word) (old mid new : Outside) (status : Status) → OnlyInput old mid → Says (read_fault_line name) ReadFault mid new status → AnswersFaults old new status
read_answers name old mid new _ only (whole said writes complaints) =
    record { complaint = λ other. complaints ∙ only.complain_faults; write = λ other. inl (writes ∙ only.write_faults); read = λ other. absurd (other refl) }
read_answers name old mid new _ only (cut part short said writes complaints) =
    record { complaint = λ other. absurd (other refl); write = λ other. absurd (other refl); read = λ other. inr (inl (refl, again_later old mid new only.complain_faults complaints)) }
read_answers name old mid new _ only (unsaid part short said writes complaints) =
    record {
      complaint = λ other. complaints ∙ only.complain_faults;
      write = λ other. inl (writes ∙ only.write_faults);
      read = λ other. inr (inr (refl, name, part, short, runs_out old mid new part only.complained said.0));
    }

-- the last bytes that are shown
pub shown_answers : (bytes : Bytes) (own : Status) (old new : Outside) (status : Status) → ShowsEnd bytes own old new status → AnswersFaults old new status
shown_answers bytes own old new _ (all_shown showed sure) =
    record { complaint = λ other. showed.1.complain_faults; write = λ other. inl sure; read = λ other. inl showed.1.output.read_faults }
shown_answers bytes own old new status (stopped part mid short showed keeps rose says) =
    wrote_answers (codes "standard output") old mid new status (record { complaints = showed.1.complain_faults; reads = showed.1.output.read_faults; quiet = showed.1.complained }) says
shown_answers bytes own old new _ (unshown part begins showed sure) =
    record { complaint = λ other. showed.1.complain_faults; write = λ other. inl sure; read = λ other. inl showed.1.output.read_faults }
