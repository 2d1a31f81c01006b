-- Rooms whose faults show in the status, and statuses that would hide them.
use Rattle.std.proofs.Common.{◌≡◌, ℕ, refl, inl, arith}
use Rattle.answer_model.specs.declared.status.Status.TheVariants.{Done, ReadFault, WriteFault, NoMemory}
use Rattle.answer_model.specs.FaultsAnswered.{AnswersFaults}
use Rattle.answer_model.specs.OutcomeRows.{before, whole, unread, no_complaint}
use Rattle.answer_model.proofs.Outcomes.{outcome_laws}

pub read_answered : AnswersFaults before unread ReadFault
read_answered = record { complaint = λ other. refl; write = λ other. inl refl; read = λ other. absurd (other refl) }

pub complaint_answered : AnswersFaults before no_complaint WriteFault
complaint_answered = record { complaint = λ other. absurd (other refl); write = λ other. absurd (other refl); read = λ other. inl refl }

one_is_none : ◌≡◌ {A = ℕ} 1 0 → ⊥
one_is_none e = omega (arith, e)

pub read_hidden : ¬ AnswersFaults before (record whole { read_faults = 1 }) Done
read_hidden a = one_is_none (outcome_laws.sure before (record whole { read_faults = 1 }) Done refl a).reads

pub append_hidden : ¬ AnswersFaults before (record whole { write_faults = 1 }) Done
append_hidden a = one_is_none (outcome_laws.sure before (record whole { write_faults = 1 }) Done refl a).writes

pub complaint_hidden : ¬ AnswersFaults before no_complaint NoMemory
complaint_hidden a = one_is_none (a.complaint (λ e. cc))
