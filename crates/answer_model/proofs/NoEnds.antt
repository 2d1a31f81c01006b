-- Outcomes that are none.
use Rattle.std.proofs.Common.{◌≡◌, ℕ, zero, suc, Option, Some, None, [], ◌∷◌, ◌++◌, get_or, length, refl, sym, ap, ◌∙◌, subst, arith, codes, inl, inr, ◌⊎◌}
use Rattle.std.specs.Fmt.{digits}
use Rattle.std.proofs.lemmas.Bool.{false≢true}
use Rattle.clap.proofs.OnLiterals.{clap_on_literals}
use Rattle.quantity.specs.Bytes.{Bytes}
use Rattle.room_edge.specs.Faults.{Rose}
use Rattle.room_edge.specs.Outside.{Files, puts, streams}
use Rattle.ma_lines.specs.Sections.{sections_of}
use Rattle.rule_syntax.specs.Tokens.{tokens}
use Rattle.rule_syntax.specs.Reading.{written_rule}
use Rattle.rule_syntax.specs.RuleOf.{rule_of_text}
use Rattle.model_tree.specs.Tree.{Word}
use Rattle.run_model.specs.WholeRun.{run}
use Rattle.run_model.specs.Run.{run_from, next_cycle}
use Rattle.text_forms.specs.Rows.{line_log}
use Rattle.model_text.specs.Models.{line_model}
use Rattle.model_text.specs.ModelOf.{model_of}
use Rattle.answer_model.specs.Options.{draft_by, command_by}
use Rattle.answer_model.specs.Asked.{asked_by_words}
use Rattle.answer_model.specs.AskedRows.{words}
use Rattle.answer_model.specs.Answer.{Answer, write_fault_line}
use Rattle.answer_model.specs.Started.{started_by}
use Rattle.answer_model.specs.Cdpp.{answer, run_on}
use Rattle.answer_model.specs.WholeFiles.{folder, boxes, model, just_model, shows}
use Rattle.answer_model.specs.Headline.{Begins, FallsShort}
use Rattle.answer_model.specs.LastPieces.{ShowsLast}
use Rattle.answer_model.specs.Outcome.{Did, Outcome, Lacks, a_file, the_output, Complaint, of_answer, of_reading, of_writing}
use Rattle.answer_model.specs.OutcomeLaws.{IsOwn}
use Rattle.answer_model.specs.OutcomeRows.{before, asks, asks_no_time}
use Rattle.answer_model.specs.NoOutcomes.{EndsNotSo, other_blamed, other_line, untrue_line, shown_early}
use Rattle.answer_model.specs.declared.status.Status.TheVariants.{Done, WriteFault, NoMemory}
use Rattle.answer_model.proofs.Outcomes.{outcome_laws}

abbrev answered : Answer
answered = shows (codes "end 00:00:00:100 cycles 2") ((codes "log.txt", line_log) ∷ []) just_model

is_answered : answer (words asks) (folder (model line_model)) boxes ≡ answered
unfolding sections_of tokens written_rule rule_of_text model_of command_by digits clap_on_literals run run_from next_cycle draft_by started_by run_on
is_answered = refl

own : IsOwn Done
own = refl

complained_is : (x : Bytes) (did : Did) → ◌≡◌ {A = Option Bytes} (Some x) (streams (Some []) did.complained) → did.complained ≡ x
unfolding streams
complained_is x did e = let same : ◌≡◌ {A = Option Bytes} (Some x) (Some did.complained) = e in cc

-- ---- at a write fault the line names what lacks bytes

longer : ◌≡◌ {A = ℕ} 24 21 → ⊥
longer e = omega arith

shorter : ◌≡◌ {A = ℕ} 24 29 → ⊥
shorter e = omega arith

blames : (did : Did) (name : Word) → Lacks answered did name → did.complained ≡ codes "write fault: frames.txt\n" → did.complained ≡ write_fault_line name → ⊥
blames did _ (a_file {name} {bytes} (zero, lt, e) lacks) said line =
    longer (ap length (sym said ∙ line ∙ ap (λ (f : Word × Bytes). write_fault_line f.0) (sym e)))
blames did _ (a_file {name} {bytes} (suc k, lt, e) lacks) said line = absurd (omega arith)
blames did _ (the_output made shown) said line = shorter (ap length (sym said ∙ line))

not_other_file : ¬ Outcome answered before other_blamed WriteFault
not_other_file o =
    let said = outcome_laws.follow answered before other_blamed WriteFault own o in
    by said.complains.0 (complained_is _ said.complains.0 said.complains.1.more.complained) (said.complains.1.at_write_fault refl)
  where
    by : (did : Did) → did.complained ≡ codes "write fault: frames.txt\n"
        → ((name : Word) × Lacks answered did name × (did.complained ≡ write_fault_line name)) ⊎ (Rose 0 0 × ((line : Bytes) × Complaint answered before other_blamed did line × FallsShort did.complained line)) → ⊥
    by did said (inl (name, lacks, line)) = blames did name lacks said line
    by did said (inr (rose, more)) = omega arith

-- ---- without memory it begins a line of a fault

abbrev first_byte : Bytes → ℕ
first_byte bytes = get_or bytes 0 0

not_empty : (rest : Bytes) → ◌≡◌ {A = Bytes} [] (codes "out of memory\n" ++ rest) → ⊥
not_empty rest e = absurd cc

other_byte : (a b : ℕ) → a ≡ b → a ≡ 114 → b ≡ 111 → ⊥
other_byte a b e p q = omega arith

another_byte : (a b : ℕ) → a ≡ b → a ≡ 119 → b ≡ 111 → ⊥
another_byte a b e p q = omega arith

no_such_line : (did : Did) (line : Bytes) → did.complained ≡ codes "out of memory\n" → Complaint answered before other_line did line → Begins did.complained line → ⊥
no_such_line did _ said of_answer (rest, e) = not_empty rest (e ∙ ap (λ c. c ++ rest) said)
no_such_line did _ said (of_reading {name} rose last) (rest, e) = other_byte _ _ (ap first_byte (e ∙ ap (λ c. c ++ rest) said)) refl refl
no_such_line did _ said (of_writing {name} rose lacks) (rest, e) = another_byte _ _ (ap first_byte (e ∙ ap (λ c. c ++ rest) said)) refl refl

not_other_line : ¬ Outcome answered before other_line NoMemory
not_other_line o =
    let said = outcome_laws.follow answered before other_line NoMemory own o in
    by said.complains.0 (complained_is _ said.complains.0 said.complains.1.more.complained) (said.complains.1.at_no_memory refl)
  where
    by : (did : Did) → did.complained ≡ codes "out of memory\n" → ((line : Bytes) × Complaint answered before other_line did line × Begins did.complained line) → ⊥
    by did said (line, complaint, begins) = no_such_line did line said complaint begins

-- ---- nor of a fault that was not counted

none_rose : Rose 0 0 → ⊥
none_rose rose = omega arith

no_bytes : (rest : Bytes) → ◌≡◌ {A = Bytes} [] (codes "write fault: log.txt\n" ++ rest) → ⊥
no_bytes rest e = absurd cc

no_true_line : (did : Did) (line : Bytes) → did.complained ≡ codes "write fault: log.txt\n" → Complaint answered before untrue_line did line → Begins did.complained line → ⊥
no_true_line did _ said of_answer (rest, e) = no_bytes rest (e ∙ ap (λ c. c ++ rest) said)
no_true_line did _ said (of_reading {name} rose last) begins = none_rose rose
no_true_line did _ said (of_writing {name} rose lacks) begins = none_rose rose

not_untrue_line : ¬ Outcome answered before untrue_line NoMemory
not_untrue_line o =
    let said = outcome_laws.follow answered before untrue_line NoMemory own o in
    by said.complains.0 (complained_is _ said.complains.0 said.complains.1.more.complained) (said.complains.1.at_no_memory refl)
  where
    by : (did : Did) → did.complained ≡ codes "write fault: log.txt\n" → ((line : Bytes) × Complaint answered before untrue_line did line × Begins did.complained line) → ⊥
    by did said (line, complaint, begins) = no_true_line did line said complaint begins

-- ---- nothing is shown before all files are whole

abbrev size_in : Option Bytes → ℕ
size_in None = 0
size_in (Some bytes) = length bytes

abbrev log_size : Option Files → ℕ
log_size None = 0
log_size (Some files) = size_in (files (codes "log.txt"))

part_is_whole : ◌≡◌ {A = ℕ} 64 225 → ⊥
part_is_whole e = omega arith

end_is_nothing : ◌≡◌ {A = ℕ} 26 0 → ⊥
end_is_nothing e = omega arith

not_in_turn : ShowsLast answered before shown_early → ⊥
unfolding puts
not_in_turn (inl whole) = part_is_whole (ap log_size whole)
not_in_turn (inr none) = end_is_nothing (ap size_in none)

not_shown_early : ¬ Outcome answered before shown_early WriteFault
not_shown_early o = not_in_turn (outcome_laws.follow answered before shown_early WriteFault own o).turn

-- ---- statuses

no_time : asked_by_words (words asks_no_time) ≡ None
unfolding command_by clap_on_literals draft_by
no_time = refl

pub ends_not_so : EndsNotSo
ends_not_so =
    record {
      other_file = λ o. not_other_file (subst (λ a. Outcome a before other_blamed WriteFault) is_answered o);
      no_fault = λ o. not_other_line (subst (λ a. Outcome a before other_line NoMemory) is_answered o);
      no_such_fault = λ o. not_untrue_line (subst (λ a. Outcome a before untrue_line NoMemory) is_answered o);
      shown_first = λ o. not_shown_early (subst (λ a. Outcome a before shown_early WriteFault) is_answered o);
      of_a_log = λ c. false≢true c.known;
      of_a_state = λ c. false≢true c.known;
      of_a_model = λ c. false≢true c.known;
      words_first = λ c. false≢true (c.refused no_time);
    }
