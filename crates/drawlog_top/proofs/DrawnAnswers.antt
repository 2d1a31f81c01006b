-- The answer to a log, from what is drawn of it, and its statuses.
use Rattle.std.proofs.Common.{◌≡◌, ℕ, ◌<◌, ◌≤◌, List, [], ◌∷◌, Bool, true, false, Option, Some, None, refl, ◌∙◌, ap, arith, length, nat_lt}
use Rattle.std.specs.Prelude.{Result, Ok, Err, if◌then◌else◌}
use Rattle.std.specs.Option.{IfSome}
use Rattle.std.proofs.lemmas.Bool.{le-ltb}
use Rattle.std.proofs.lemmas.Bool.Decides.{Decides-ltb}
use Rattle.quantity.specs.Bytes.{Bytes}
use Rattle.room_edge.specs.Outside.{Outside}
use Rattle.model_tree.specs.Tree.{Word}
use Rattle.text_forms.specs.Frames.{frames_of_log}
use Rattle.answer_model.specs.Answer.{Answer, only_complains, only_shows}
use Rattle.answer_model.specs.AskedDrawing.{AskedDrawing}
use Rattle.answer_model.specs.Drawlog.{drawn_answer, log_refused}
use Rattle.answer_model.specs.declared.status.Status.{Status}
use Rattle.answer_model.specs.declared.status.Status.TheVariants.{Done, ReadFault, LogRefused}
use Rattle.answer_model.specs.Status.{Stage, at_words, at_files, at_reads, at_inputs, at_state, at_log, in_run, at_end, anywhere, status_row, IsOf, of_drawing, of_log, of_drawlog}
use Rattle.answer_model.specs.Endings.{ShowsEnd}
use Rattle.answer_model.specs.OutcomeLaws.{EndsBy}
use Rattle.answer_model.proofs.Said.{shown_among}
use Rattle.answer_model.proofs.FaultLemmas.{shown_answers}
use Rattle.answer_model.proofs.Causing.{shown_caused, not_of}
use Rattle.drawlog_top.specs.Ends.{answer_to_file}

-- ---- a log that is not too long

abbrev answer_as : Result Bytes ℕ → List Word → Answer
answer_as r inputs = elim r [ Err line ↦ only_complains LogRefused (log_refused line) inputs | Ok frames ↦ only_shows frames inputs ]

short_log : (a : AskedDrawing) (log : Bytes) (inputs : List Word) → length log ≤ 268435456 → drawn_answer a log inputs ≡ answer_as (frames_of_log a.picture a.group log) inputs
short_log a log inputs short = ap (λ b. if b then only_complains LogRefused (log_refused 0) inputs else answer_as (frames_of_log a.picture a.group log) inputs) (le-ltb 268435456 (length log) short)

pub drawn_shows : (a : AskedDrawing) (log frames : Bytes) (inputs : List Word) → length log ≤ 268435456 → frames_of_log a.picture a.group log ≡ Ok frames → drawn_answer a log inputs ≡ only_shows frames inputs
drawn_shows a log frames inputs short is = short_log a log inputs short ∙ ap (λ r. answer_as r inputs) is

pub drawn_refuses : (a : AskedDrawing) (log : Bytes) (line : ℕ) (inputs : List Word) → length log ≤ 268435456 → frames_of_log a.picture a.group log ≡ Err line → drawn_answer a log inputs ≡ only_complains LogRefused (log_refused line) inputs
drawn_refuses a log line inputs short is = short_log a log inputs short ∙ ap (λ r. answer_as r inputs) is

-- ---- a log that is too long

pub long_refused : (a : AskedDrawing) (log : Bytes) (inputs : List Word) → 268435456 < length log → drawn_answer a log inputs ≡ only_complains LogRefused (log_refused 0) inputs
long_refused a log inputs long = ap (λ b. if b then only_complains LogRefused (log_refused 0) inputs else answer_as (frames_of_log a.picture a.group log) inputs) ((Decides-ltb 268435456 (length log)).1 long)

-- ---- the log is the one input

pub drawn_inputs : (a : AskedDrawing) (log : Bytes) (inputs : List Word) → (drawn_answer a log inputs).inputs ≡ inputs
drawn_inputs a log inputs = by (nat_lt 268435456 (length log)) (frames_of_log a.picture a.group log)
  where
    by : (b : Bool) (r : Result Bytes ℕ) → (if b then only_complains LogRefused (log_refused 0) inputs else answer_as r inputs).inputs ≡ inputs
    by true r = refl
    by false (Ok frames) = refl
    by false (Err line) = refl

pub file_inputs : (a : AskedDrawing) (o : Option Bytes) → (answer_to_file a o).inputs ≡ a.log ∷ []
file_inputs a None = refl
file_inputs a (Some log) = drawn_inputs a log (a.log ∷ [])

-- ---- where the files are told

pub if_some_all : {X : Type 0} (o : Option X) (P : X → Type 0) → ((x : X) → P x) → IfSome o P
if_some_all None P all = tt
if_some_all (Some x) P all = all x

-- ---- statuses

log_draws : (part : Stage) → of_drawing part ≡ true → of_log part ≡ true
log_draws at_words e = e
log_draws at_files e = refl
log_draws at_reads e = refl
log_draws at_inputs e = e
log_draws at_state e = e
log_draws at_log e = refl
log_draws in_run e = e
log_draws at_end e = refl
log_draws anywhere e = refl

drawlog_reads : (part : Stage) → of_log part ≡ true → of_drawlog part ≡ true
drawlog_reads at_words e = refl
drawlog_reads at_files e = refl
drawlog_reads at_reads e = refl
drawlog_reads at_inputs e = e
drawlog_reads at_state e = e
drawlog_reads at_log e = refl
drawlog_reads in_run e = e
drawlog_reads at_end e = refl
drawlog_reads anywhere e = refl

pub log_known : (status : Status) → IsOf of_log status → IsOf of_drawlog status
log_known status known = drawlog_reads (status_row status).part known

-- a drawing ends so, and so does the reading before it
pub drawing_ends : (old new : Outside) (status : Status) → EndsBy of_drawing old new status → EndsBy of_log old new status
drawing_ends old new status ends = record { known = log_draws (status_row status).part ends.known; cause = ends.cause; faults = ends.faults; nothing = ends.nothing }

-- a drawing that is shown
pub shown_ends : (bytes : Bytes) (old new : Outside) (status : Status) → ShowsEnd bytes Done old new status → EndsBy of_drawing old new status
shown_ends bytes old new status says =
    let known : IsOf of_drawing status = shown_among of_drawing bytes Done old new status refl refl refl says in
    record {
      known = known;
      cause = shown_caused ⊥ bytes old old new status (omega arith) says;
      faults = shown_answers bytes Done old new status says;
      nothing = λ e. absurd (not_of of_drawing status ReadFault known refl e);
    }
