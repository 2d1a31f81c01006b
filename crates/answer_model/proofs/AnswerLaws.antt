-- What holds of all answers, stage by stage.
use Rattle.std.proofs.Common.{◌≡◌, ℕ, Bool, true, false, cond, ◌++◌, Option, Some, None, List, [], ◌∷◌, codes, length, nat_lt, Result, Ok, Err, refl}
use Rattle.quantity.specs.Bytes.{Bytes}
use Rattle.rule_tree.specs.declared.outcome.RuleStop.{RuleStop}
use Rattle.rule_tree.specs.declared.outcome.RuleStop.TheVariants.{NoTrueRule, Overflow, BadDelay}
use Rattle.room_edge.specs.Outside.{Files}
use Rattle.atomic_face.specs.declared.class.Class.{Class}
use Rattle.model_tree.specs.Tree.{Word, Tree}
use Rattle.run_model.specs.Run.{Event, Cycle, Verdict, done, too_many, stop, Run}
use Rattle.text_forms.specs.Frames.{frames_of_log}
use Rattle.text_forms.specs.StateOf.{Saved}
use Rattle.answer_model.specs.Asked.{Asked}
use Rattle.answer_model.specs.AskedDrawing.{AskedDrawing, asked_drawing, drawing_usage}
use Rattle.answer_model.specs.Answer.{Answer, if_asked, missing_file_answer, with_file, only_complains, only_shows}
use Rattle.answer_model.specs.RunEnd.{verdict_message, stop_status}
use Rattle.answer_model.specs.RunFiles.{answer_of_run}
use Rattle.answer_model.specs.Started.{Started, Stop, bad_words, no_file, bad_model, bad_events, bad_state, Stopped, line_of, status_of}
use Rattle.answer_model.specs.ByWords.{started_by_words}
use Rattle.answer_model.specs.RunOf.{run_of}
use Rattle.answer_model.specs.Cdpp.{answer_of, answer}
use Rattle.answer_model.specs.Drawlog.{log_refused, drawn_answer, drawing_answer}
use Rattle.answer_model.specs.OutcomeLaws.{IsOwn}
use Rattle.answer_model.specs.AnswerLaws.{IsAnswer, AllAreAnswers}
use Rattle.answer_model.specs.declared.status.Status.{Status}
use Rattle.answer_model.specs.declared.status.Status.TheVariants as exit
use Rattle.answer_model.specs.Status.{status_row}
use Rattle.answer_model.specs.StatusNumbers.{of_refusals}

-- ---- stages

complaint_is : (status : Status) (line : Bytes) (inputs : List Word) → IsOwn status → IsAnswer (only_complains status line inputs)
complaint_is status line inputs own = record { own = own; nothing = λ e. (refl, refl) }

asked_is : {A : Type 0} (form : Bytes) (o : Option A) (go : A → Answer) → ((a : A) → IsAnswer (go a)) → IsAnswer (if_asked form o go)
asked_is form None go h = complaint_is exit.Usage (codes "usage: " ++ form) [] refl
asked_is form (Some a) go h = h a

missing_is : (name : Word) (inputs : List Word) → IsAnswer (missing_file_answer name inputs)
missing_is name inputs = complaint_is exit.Missing (codes "missing: " ++ name) inputs refl

file_is : (files : Files) (name : Word) (inputs : List Word) (go : Bytes → List Word → Answer) → ((b : Bytes) (i : List Word) → IsAnswer (go b i)) → IsAnswer (with_file files name inputs go)
file_is files name inputs go h = by (files name)
  where
    by : (o : Option Bytes) → IsAnswer (elim o as (λ x. Answer) [ None ↦ missing_file_answer name (inputs ++ name ∷ []) | Some bytes ↦ go bytes (inputs ++ name ∷ []) ])
    by None = missing_is name (inputs ++ name ∷ [])
    by (Some bytes) = h bytes (inputs ++ name ∷ [])

-- ---- the end of a run

stop_own : (why : RuleStop) → IsOwn (stop_status why) × (of_refusals (status_row (stop_status why)).part ≡ false)
stop_own NoTrueRule = (refl, refl)
stop_own Overflow = (refl, refl)
stop_own (BadDelay d) = (refl, refl)

said_own : (a : Asked) (tree : Tree) (events : List Event) (cs : List Cycle) (v : Verdict) → IsOwn (verdict_message a tree events cs v).status × (of_refusals (status_row (verdict_message a tree events cs v).status).part ≡ false)
said_own a tree events cs done = (refl, refl)
said_own a tree events cs (too_many t) = (refl, refl)
said_own a tree events cs (stop leaf t why) = stop_own why

not_both : {A : Type 0} (b : Bool) → b ≡ true → b ≡ false → A
not_both true e f = absurd cc
not_both false e f = absurd cc

run_is : (a : Asked) (tree : Tree) (events : List Event) (from : Option Saved) (inputs : List Word) (r : Run) → IsAnswer (answer_of_run a tree events from inputs r)
run_is a tree events from inputs r =
    let k = said_own a tree events r.cycles r.verdict in
    record { own = k.0; nothing = λ e. not_both (of_refusals (status_row (verdict_message a tree events r.cycles r.verdict).status).part) e k.1 }

-- ---- both programs

-- the status of a stop is its own
stop_owns : (why : Stop) → IsOwn (status_of why)
stop_owns (bad_words form) = refl
stop_owns (no_file name) = refl
stop_owns (bad_model why) = refl
stop_owns (bad_events why) = refl
stop_owns (bad_state why) = refl

started_is : (r : Result Started Stopped) → IsAnswer (answer_of r)
started_is (Ok s) = run_is s.asked s.tree s.events s.from s.inputs (run_of s)
started_is (Err e) = complaint_is (status_of e.why) (line_of e.why) e.inputs (stop_owns e.why)

cdpp_is : (words : List Word) (files : Files) (classes : List Class) → IsAnswer (answer words files classes)
cdpp_is words files classes = started_is (started_by_words words files classes)

drawn_is : (a : AskedDrawing) (log : Bytes) (inputs : List Word) → IsAnswer (drawn_answer a log inputs)
drawn_is a log inputs = by_length (nat_lt 268435456 (length log)) (frames_of_log a.picture a.group log)
  where
    refused : (line : ℕ) → IsAnswer (only_complains exit.LogRefused (log_refused line) inputs)
    refused line = complaint_is exit.LogRefused (log_refused line) inputs refl

    shown : (frames : Bytes) → IsAnswer (only_shows frames inputs)
    shown frames = record { own = refl; nothing = λ e. absurd cc }

    by_length : (b : Bool) (r : Result Bytes ℕ) → IsAnswer (cond b (only_complains exit.LogRefused (log_refused 0) inputs) (elim r as (λ x. Answer) [ Err line ↦ only_complains exit.LogRefused (log_refused line) inputs | Ok frames ↦ only_shows frames inputs ]))
    by_length true r = refused 0
    by_length false (Err line) = refused line
    by_length false (Ok frames) = shown frames

drawlog_is : (words : List Word) (files : Files) → IsAnswer (drawing_answer words files)
unfolding drawing_answer
drawlog_is words files = asked_is drawing_usage (asked_drawing words) _ (λ a. file_is files a.log [] _ (drawn_is a))

pub all_are_answers : AllAreAnswers
all_are_answers = record { cdpp = cdpp_is; drawlog = drawlog_is }
