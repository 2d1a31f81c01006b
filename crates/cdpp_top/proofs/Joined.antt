-- The clauses of the program from those of its stages.
use Rattle.std.proofs.Common.{◌≡◌, ℕ, ◌+◌, ◌≤◌, List, [], Some, Result, Ok, Err, sym, subst}
use Rattle.std.specs.Prelude.{IfSome}
use Rattle.std.specs.Bool.{OnTrue}
use Rattle.room_edge.specs.Outside.{Outside}
use Rattle.room_edge.specs.Only.{OnlyInput}
use Rattle.model_tree.specs.Tree.{Word}
use Rattle.answer_model.specs.declared.status.Status.{Status}
use Rattle.answer_model.specs.Status.{of_reading}
use Rattle.answer_model.specs.Asked.{Asked, asked_by_words}
use Rattle.answer_model.specs.Started.{Started, Stopped}
use Rattle.answer_model.specs.Cdpp.{start_answer, answer_of}
use Rattle.answer_model.specs.Visits.{is_counted, start_visits, visits_of_reading}
use Rattle.answer_model.specs.Endings.{looked_for, EndsWith}
use Rattle.answer_model.specs.OutcomeLaws.{EndsBy}
use Rattle.answer_model.specs.Outcome.{Outcome}
use Rattle.answer_model.proofs.Causing.{later_ends}
use Rattle.answer_model.proofs.Stages.{at_start, then_ends}
use Rattle.run_inputs.specs.Read.{ReadCauses}
use Rattle.cdpp_top.specs.Stages.{ReadsStart, EndsOverAll, StartCauses}
use Rattle.run_inputs.specs.declared.unread.Unread.{Unread}
use Rattle.cdpp_top.proofs.Causes.{taken_ends, are_taken}
use Rattle.asked_run.proofs.Orders.{bounded_by}

-- what is read of words is what is read of what they ask for
pub read_as : {A : Type 0} (stands : A → Started → Type 0) (r q : Result Started Stopped) (old new : Outside) (result : Result A Unread) → q ≡ r → ReadsStart stands r old new result → ReadsStart stands q old new result
read_as stands r q old new result e reads = subst (λ (z : Result Started Stopped). ReadsStart stands z old new result) (sym e) reads

pub start_causes : {A : Type 0} (words : List Word) (a : Asked) (old new : Outside) (result : Result A Unread) → Some a ≡ asked_by_words words → ReadCauses old new result → StartCauses words old new result
start_causes words a old new (Ok x) is causes = (are_taken words a is, causes.0, causes.1)
start_causes words a old new (Err why) is causes = λ after s tells. taken_ends words old after s (are_taken words a is) (causes after s tells)

-- it was read, and the rest ended
pub read_then : {A : Type 0} (stands : A → Started → Type 0) (x : A) (r : Result Started Stopped) (old mid new : Outside) (status : Status) → ReadsStart stands r old mid (Ok x) → ((s : Started) → stands x s → EndsWith (start_answer s) (looked_for s.inputs) mid new status)
    → Outcome (answer_of r) old new status
read_then stands x r old mid new status reads later =
    let s = reads.0 in
    at_start (answer_of r) old new status (then_ends (answer_of r) (looked_for []) (looked_for s.inputs) old mid new status reads.3
    (subst (λ (q : Result Started Stopped). EndsWith (answer_of q) (looked_for s.inputs) mid new status) (sym reads.1) (later s reads.2)))

-- how the rest ends is how the program does
pub read_ends : {A : Type 0} (words : List Word) (x : A) (old mid new : Outside) (s : Status) → StartCauses words old mid (Ok x) → OnlyInput old mid → EndsBy of_reading mid new s → EndsOverAll words old new s
read_ends words x old mid new s read only run = taken_ends words old new s read.0 (later_ends of_reading old mid new s only read.1 read.2 run)

-- its visits are those of what is started
pub visited : (s : Started) (r : Result Started Stopped) (n m : ℕ) → r ≡ Ok s → OnTrue (is_counted s.asked) (n ≤ m + start_visits s) → IfSome (visits_of_reading r) (λ most. n ≤ m + most)
visited s r n m is le =
    subst (λ (q : Result Started Stopped). IfSome (visits_of_reading q) (λ most. n ≤ m + most)) (sym is) (bounded_by (is_counted s.asked) (start_visits s) (λ most. n ≤ m + most) le)
