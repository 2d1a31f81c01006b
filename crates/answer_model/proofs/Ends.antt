-- Outcomes that are met.
use Rattle.std.proofs.Common.{◌≡◌, ℕ, zero, suc, Option, Some, None, [], ◌∷◌, ◌++◌, ◌<◌, refl, sym, ap, ◌∙◌, subst, arith, length, take, drop, codes, Contains, inr}
use Rattle.std.specs.Fmt.{digits}
use Rattle.clap.proofs.OnLiterals.{clap_on_literals}
use Rattle.room_edge.specs.Outside.{Outside, streams}
use Rattle.text_forms.specs.Lines.{line_with_end}
use Rattle.run_model.specs.WholeRun.{run}
use Rattle.run_model.specs.Run.{run_from, next_cycle}
use Rattle.text_forms.specs.Rows.{line_log}
use Rattle.quantity.specs.Bytes.{Bytes}
use Rattle.answer_model.specs.Options.{draft_by, command_by}
use Rattle.answer_model.specs.Asked.{Asked, file, asked_by_words}
use Rattle.answer_model.specs.ByWords.{usage}
use Rattle.answer_model.specs.AskedRows.{words, plain}
use Rattle.answer_model.specs.Answer.{MadeFiles, Answer}
use Rattle.answer_model.specs.Started.{started_by}
use Rattle.answer_model.specs.Cdpp.{answer, run_on}
use Rattle.answer_model.specs.WholeFiles.{folder, boxes, model, just_model, shows, complains}
use Rattle.model_text.specs.Models.{line_model}
use Rattle.model_text.specs.ModelOf.{model_of}
use Rattle.ma_lines.specs.Sections.{sections_of}
use Rattle.rule_syntax.specs.Tokens.{tokens}
use Rattle.rule_syntax.specs.Reading.{written_rule}
use Rattle.rule_syntax.specs.RuleOf.{rule_of_text}
use Rattle.answer_model.specs.Outcome.{Outcome, a_file, the_output, of_answer, as_answered, reading_failed, writing_failed, complaining_failed}
use Rattle.answer_model.specs.Programs.{CdppEnds, CdppCauses}
use Rattle.answer_model.specs.declared.status.Status.{Status}
use Rattle.answer_model.specs.declared.status.Status.TheVariants.{Done, Usage, ReadFault, WriteFault, StateRefused}
use Rattle.answer_model.specs.OutcomeRows.{before, with_log, log_cut_short, not_made, not_shown, no_complaint, whole, unread, files_with_state, before_state, no_run, asks, asks_no_time, asks_from_state}

abbrev answered : Answer
answered = shows (codes "end 00:00:00:100 cycles 2") ((codes "log.txt", line_log) ∷ []) just_model

is_answered : answer (words asks) (folder (model line_model)) boxes ≡ answered
unfolding sections_of tokens written_rule rule_of_text model_of command_by digits clap_on_literals run run_from next_cycle draft_by started_by run_on
is_answered = refl

abbrev plain_model : Asked
plain_model = record plain { source = file (codes "m.ma") }

is_asked : asked_by_words (words asks) ≡ Some plain_model
unfolding command_by clap_on_literals draft_by
is_asked = refl

abbrev bytes_in : Bytes × Bytes → ℕ
bytes_in f = length f.1

not_same : (m n : ℕ) → m < 225 → n ≡ 225 → m ≡ n → ⊥
not_same m n p q e = omega arith

-- files with this log alone
abbrev log_of : Bytes → MadeFiles
log_of part = (codes "log.txt", part) ∷ []

not_whole : (part : Bytes) → length part < 225 → ¬ Contains (log_of part) (codes "log.txt", line_log)
not_whole part short (zero, lt, e) = not_same (length part) (length line_log) short refl (ap bytes_in e)
not_whole part short (suc k, lt, e) = absurd (omega arith)

abbrev no_files : MadeFiles
no_files = []

none_is_whole : ¬ Contains no_files (codes "log.txt", line_log)
none_is_whole (k, lt, e) = absurd (omega arith)

-- a log that holds a beginning of its bytes
abbrev cut_to : Bytes → Outside
cut_to part = record (with_log ((codes "log.txt", part) ∷ []) [] (codes "write fault: log.txt\n")) { write_faults = 1 }

cut_by : (part rest : Bytes) → line_log ≡ part ++ rest → length part < 225 → Outcome answered before (cut_to part) WriteFault
unfolding streams
cut_by part rest whole short =
    record {
      did = record { tried = codes "m.ma" ∷ []; made = (codes "log.txt", part) ∷ []; shown = []; complained = codes "write fault: log.txt\n" };
      more = record { made = refl; created = refl; shown = refl; complained = refl; tried = refl };
      inputs = ([], refl);
      ending = writing_failed {name = codes "log.txt"} (omega arith) ((refl, (rest, whole), tt), (codes "end 00:00:00:100 cycles 2\n", refl), inr refl) (a_file {bytes = line_log} (0, omega arith, refl) (not_whole part short)) refl;
    }

not_made_by : Outcome answered before not_made WriteFault
unfolding streams
not_made_by =
    record {
      did = record { tried = codes "m.ma" ∷ []; made = []; shown = []; complained = codes "write fault: log.txt\n" };
      more = record { made = refl; created = refl; shown = refl; complained = refl; tried = refl };
      inputs = ([], refl);
      ending = writing_failed {name = codes "log.txt"} (omega arith) (tt, (codes "end 00:00:00:100 cycles 2\n", refl), inr refl) (a_file {bytes = line_log} (0, omega arith, refl) none_is_whole) refl;
    }

not_shown_by : Outcome answered before not_shown WriteFault
unfolding streams
not_shown_by =
    record {
      did = record { tried = codes "m.ma" ∷ []; made = (codes "log.txt", line_log) ∷ []; shown = []; complained = codes "write fault: standard output\n" };
      more = record { made = refl; created = refl; shown = refl; complained = refl; tried = refl };
      inputs = ([], refl);
      ending = writing_failed {name = codes "standard output"} (omega arith) ((refl, ([], refl), tt), (codes "end 00:00:00:100 cycles 2\n", refl), inr refl) (the_output refl (λ e. nothing_is_shown (ap length e))) refl;
    }
  where
    nothing_is_shown : ◌≡◌ {A = ℕ} 0 26 → ⊥
    nothing_is_shown e = omega arith

whole_by : Outcome answered before whole Done
unfolding streams
whole_by =
    record {
      did = record { tried = codes "m.ma" ∷ []; made = (codes "log.txt", line_log) ∷ []; shown = codes "end 00:00:00:100 cycles 2\n"; complained = [] };
      more = record { made = refl; created = refl; shown = refl; complained = refl; tried = refl };
      inputs = ([], refl);
      ending = as_answered refl refl refl;
    }

of_answered : (after : Outside) (status : Status) → Outcome answered before after status → CdppEnds (words asks) boxes before after status
of_answered after status o = subst (λ a. Outcome a before after status) (sym is_answered) o

pub first_append : CdppEnds (words asks) boxes before (log_cut_short 0) WriteFault
first_append = of_answered (log_cut_short 0) WriteFault (cut_by (take 0 line_log) (drop 0 line_log) refl (omega arith))

pub second_append : CdppEnds (words asks) boxes before (log_cut_short 64) WriteFault
second_append = of_answered (log_cut_short 64) WriteFault (cut_by (take 64 line_log) (drop 64 line_log) refl (omega arith))

pub third_append : CdppEnds (words asks) boxes before (log_cut_short 128) WriteFault
third_append = of_answered (log_cut_short 128) WriteFault (cut_by (take 128 line_log) (drop 128 line_log) refl (omega arith))

pub fourth_append : CdppEnds (words asks) boxes before (log_cut_short 135) WriteFault
fourth_append = of_answered (log_cut_short 135) WriteFault (cut_by (take 135 line_log) (drop 135 line_log) refl (omega arith))

pub fifth_append : CdppEnds (words asks) boxes before (log_cut_short 199) WriteFault
fifth_append = of_answered (log_cut_short 199) WriteFault (cut_by (take 199 line_log) (drop 199 line_log) refl (omega arith))

pub no_log : CdppEnds (words asks) boxes before not_made WriteFault
no_log = of_answered not_made WriteFault not_made_by

pub nothing_shown : CdppEnds (words asks) boxes before not_shown WriteFault
nothing_shown = of_answered not_shown WriteFault not_shown_by

-- ---- words that are refused, and a complaint that failed

abbrev usage_line : Bytes
usage_line = line_with_end (codes "usage: " ++ usage)

abbrev refused_words : Answer
refused_words = record { made = []; shown = []; complained = usage_line; status = Usage; inputs = [] }

is_refused : answer (words asks_no_time) (folder (model line_model)) boxes ≡ refused_words
unfolding command_by digits clap_on_literals draft_by started_by
is_refused = refl

some_line : ◌≡◌ {A = Bytes} [] usage_line → ⊥
some_line e = absurd (no_bytes (ap length e))
  where
    no_bytes : ◌≡◌ {A = ℕ} 0 (length usage_line) → ⊥
    no_bytes h = omega arith

no_complaint_by : Outcome refused_words before no_complaint WriteFault
unfolding streams
no_complaint_by =
    record {
      did = record { tried = []; made = []; shown = []; complained = [] };
      more = record { made = refl; created = refl; shown = refl; complained = refl; tried = refl };
      inputs = ([], refl);
      ending = complaining_failed {line = usage_line} (omega arith) (omega arith) (tt, ([], refl), inr refl) of_answer ((usage_line, refl), some_line);
    }

pub nothing_complained : CdppEnds (words asks_no_time) boxes before no_complaint WriteFault
nothing_complained = subst (λ a. Outcome a before no_complaint WriteFault) (sym is_refused) no_complaint_by

pub complete : CdppEnds (words asks) boxes before whole Done
complete = subst (λ a. Outcome a before whole Done) (sym is_answered) whole_by

unread_by : Outcome answered before unread ReadFault
unfolding streams
unread_by =
    record {
      did = record { tried = codes "m.ma" ∷ []; made = []; shown = []; complained = codes "read fault: m.ma\n" };
      more = record { made = refl; created = refl; shown = refl; complained = refl; tried = refl };
      inputs = ([], refl);
      ending = reading_failed {name = codes "m.ma"} (omega arith) refl refl refl refl;
    }

pub not_read : CdppEnds (words asks) boxes before unread ReadFault
not_read = subst (λ a. Outcome a before unread ReadFault) (sym is_answered) unread_by

abbrev is_given : {A : Type 0} → Option A → ℕ
is_given None = 0
is_given (Some x) = 1

not_none : {A : Type 0} (o : Option A) (x : A) → o ≡ Some x → o ≡ None → ⊥
not_none o x e f = let one_is_none : ◌≡◌ {A = ℕ} 1 0 = sym (ap is_given e) ∙ ap is_given f in omega arith

pub cut_causes : CdppCauses (words asks) before (log_cut_short 199) WriteFault
cut_causes =
    record {
      known = refl;
      cause = omega arith;
      refused = λ e. absurd (not_none (asked_by_words (words asks)) plain_model is_asked e);
    }

-- ---- a state that is refused

abbrev refused_state : Answer
refused_state = complains StateRefused (codes "state refused: line 1: 1 BadStateLine") [] (codes "m.ma" ∷ codes "s.txt" ∷ [])

is_no_run : answer (words asks_from_state) (folder files_with_state) boxes ≡ refused_state
unfolding sections_of tokens written_rule rule_of_text model_of command_by digits clap_on_literals draft_by started_by
is_no_run = refl

no_run_by : Outcome refused_state before_state no_run StateRefused
unfolding streams
no_run_by =
    record {
      did = record { tried = codes "m.ma" ∷ codes "s.txt" ∷ []; made = []; shown = []; complained = codes "state refused: line 1: 1 BadStateLine\n" };
      more = record { made = refl; created = refl; shown = refl; complained = refl; tried = refl };
      inputs = ([], refl);
      ending = as_answered refl refl refl;
    }

pub no_state : CdppEnds (words asks_from_state) boxes before_state no_run StateRefused
no_state = subst (λ a. Outcome a before_state no_run StateRefused) (sym is_no_run) no_run_by

abbrev from_state : Asked
from_state = record plain_model { log = None; state = Some (codes "s.txt") }

is_asked_from : asked_by_words (words asks_from_state) ≡ Some from_state
unfolding command_by clap_on_literals draft_by
is_asked_from = refl

pub no_state_causes : CdppCauses (words asks_from_state) before_state no_run StateRefused
no_state_causes =
    record {
      known = refl;
      cause = tt;
      refused = λ e. absurd (not_none (asked_by_words (words asks_from_state)) from_state is_asked_from e);
    }
