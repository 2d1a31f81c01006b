-- The causes of the program's status, where something can't be read.
use Rattle.std.proofs.Common.{◌≡◌, Some, None, List, Result, Ok, Err, refl, sym, ◌∙◌, subst, arith}
use Rattle.room_edge.specs.Outside.{Outside}
use Rattle.room_edge.specs.Only.{OnlyInput}
use Rattle.room_edge.specs.FaultCounts.{KeepsMisses}
use Rattle.model_tree.specs.Tree.{Word}
use Rattle.model_read.specs.declared.refusal.ModelRefusal.{ModelRefusal}
use Rattle.model_read.specs.declared.refusal.ModelRefusal.TheVariants as M
use Rattle.model_read.specs.Reading.{Counted}
use Rattle.answer_model.specs.declared.status.Status.{Status}
use Rattle.answer_model.specs.declared.status.Status.TheVariants as exit
use Rattle.answer_model.specs.Status.{status_row, of_words, of_reading, of_cdpp}
use Rattle.answer_model.specs.Asked.{Asked, asked_by_words}
use Rattle.answer_model.specs.ByWords.{usage}
use Rattle.answer_model.specs.Started.{bad_words}
use Rattle.answer_model.specs.OutcomeLaws.{EndsBy}
use Rattle.answer_model.specs.FaultsAnswered.{NoReadFault}
use Rattle.answer_model.proofs.FaultLemmas.{nothing_done, clean_answers, said_answers}
use Rattle.answer_model.proofs.Said.{said_among}
use Rattle.answer_model.proofs.Causing.{read_known, cause_for, said_caused, nothing_read, nothing_written, said_ends, unread_ends, later_ends}
use Rattle.run_inputs.specs.declared.unread.Unread.{Unread}
use Rattle.run_inputs.specs.Unread.{TellsStop, TellsNothing, TellsUnread}
use Rattle.run_inputs.specs.Read.{ReadCauses}
use Rattle.cdpp_top.specs.Stages.{unread_model, EndsOverAll}
use Rattle.run_inputs.proofs.Causing.{nothing_told, misses_then}

-- ---- of a model

pub model_told : (T : Type 0) (reason : ModelRefusal) (old mid new : Outside) (s : Status) → Counted {T = T} (Err reason) old mid → OnlyInput old mid → TellsUnread (unread_model reason) mid new s → EndsBy of_reading old new s
model_told T (M.Missing name) old mid new s counted only says = said_ends of_reading _ exit.Missing old mid new s refl refl counted.0 only counted.1 says
model_told T (M.ReadFault name) old mid new s counted only says = unread_ends of_reading name old mid new s refl refl counted.1 only says
model_told T (M.Refused line kind) old mid new s counted only says = said_ends of_reading _ exit.ModelRefused old mid new s refl refl tt only counted.1 says
model_told T M.Memory old mid new s counted only tells = nothing_told old mid new s only counted.1 tells

-- one reading after another
pub causes_then : {A : Type 0} (old mid new : Outside) (result : Result A Unread) → OnlyInput old mid → KeepsMisses old mid → NoReadFault old mid → ReadCauses mid new result → ReadCauses old new result
causes_then old mid new (Ok x) only misses none later = (misses_then old mid new misses later.0, later.1 ∙ none)
causes_then old mid new (Err why) only misses none later = λ after s tells. later_ends of_reading old mid after s only misses none (later after s tells)

-- ---- of the program

-- once the words are taken
pub taken_ends : (words : List Word) (old new : Outside) (s : Status) → (asked_by_words words ≡ None → ⊥) → EndsBy of_reading old new s → EndsOverAll words old new s
taken_ends words old new s taken ends =
    record {
      causes = record {
        known = read_known s ends.known;
        cause = cause_for ⊥ (asked_by_words words ≡ None) old new (status_row s).cause (λ e. absurd e) ends.cause;
        refused = λ none. absurd (taken none);
      };
      faults = ends.faults;
      nothing = ends.nothing;
    }

-- words that are taken are not refused
pub are_taken : (words : List Word) (a : Asked) → Some a ≡ asked_by_words words → asked_by_words words ≡ None → ⊥
are_taken words a is none = let both = is ∙ none in let no : ⊥ = cc in no

-- words that are refused
pub refused_ends : (words : List Word) (old new : Outside) (s : Status) → None ≡ asked_by_words words → TellsStop (bad_words usage) old new s → EndsOverAll words old new s
refused_ends words old new s is says =
    record {
      causes = record {
        known = said_among of_cdpp _ exit.Usage old new s refl refl refl says;
        cause = said_caused (asked_by_words words ≡ None) _ exit.Usage old old new s (omega arith) (sym is) says;
        refused = λ e. said_among of_words _ exit.Usage old new s refl refl refl says;
      };
      faults = said_answers _ exit.Usage old new s says;
      nothing = λ e. nothing_written _ exit.Usage old old new s (nothing_read old) says;
    }

no_memory_ends : (words : List Word) (now : Outside) → EndsOverAll words now now exit.NoMemory
no_memory_ends words now =
    record {
      causes = record { known = refl; cause = tt; refused = λ e. refl };
      faults = clean_answers now now exit.NoMemory (nothing_done now);
      nothing = λ e. absurd cc;
    }

-- no memory for them
pub unread_words_end : (words : List Word) (old new : Outside) (s : Status) → TellsNothing old new s → EndsOverAll words old new s
unread_words_end words old new s (own, same) =
    subst (EndsOverAll words old new) (sym own) (subst (λ (o : Outside). EndsOverAll words old o exit.NoMemory) (sym same) (no_memory_ends words old))
