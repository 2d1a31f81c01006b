-- The files that a run leaves: pieces that were written, and a line that changes no file.
use Rattle.std.proofs.Common.{◌≡◌, ℕ, ◌+◌, ◌≤◌, Bool, Option, List, [], refl, ap, ◌∙◌, subst, arith}
use Rattle.std.specs.Prelude.{Ok}
use Rattle.std.proofs.lemmas.Bool.{OnTrue_at, OnTrue_from}
use Rattle.quantity.specs.Bytes.{Bytes}
use Rattle.model_tree.specs.Tree.{Word}
use Rattle.run_model.specs.Run.{Run}
use Rattle.room_edge.specs.Outside.{Outside}
use Rattle.answer_model.specs.declared.status.Status.{Status}
use Rattle.answer_model.specs.declared.status.Status.TheVariants as exit
use Rattle.answer_model.specs.Answer.{Answer, write_fault_line}
use Rattle.answer_model.specs.Headline.{puts_all}
use Rattle.answer_model.specs.Endings.{Says, ShowsEnd, all_shown, stopped, unshown, made_after, looked_for, LeadsTo}
use Rattle.answer_model.specs.RunEnd.{Said}
use Rattle.answer_model.proofs.Endings.{steps_lead}
use Rattle.answer_model.proofs.Said.{said_only}
use Rattle.run_leaves.specs.Standing.{Standing}
use Rattle.run_loop.specs.declared.outputs.Unwritten.{Unwritten}
use Rattle.run_loop.specs.declared.outputs.Unwritten.TheVariants.{Fault, Memory}
use Rattle.run_loop.specs.declared.outputs.Output.TheVariants.{Log}
use Rattle.run_loop.specs.Texts.{FileNames, Texts, no_texts, both, files, name_at, made_before}
use Rattle.run_loop.specs.Order.{texts_of}
use Rattle.run_loop.specs.Written.{Adds, MakesAll, FallsMaking, Tells, Blames}
use Rattle.run_loop.specs.Showing.{Showing}
use Rattle.run_loop.proofs.Adding.{adds_both, fault_after}
use Rattle.run_loop.proofs.Making.{some_of, if_some, falls_blames, making_blames}
use Rattle.run_loop.specs.declared.ending.Ending.{Ending}
use Rattle.run_loop.specs.declared.going.Going.{Going}
use Rattle.run_loop.specs.Ends.{IsSaid, is_shown, is_complained}
use Rattle.run_loop.specs.Ran.{RunsWhole, BreaksOff}
use Rattle.run_loop.specs.Left.{rest_of}
use Rattle.run_loop.specs.Leaves.{Asking, Spent, spent_between, first_visits, whole_texts, after_cycles, pieces_before, pieces_begun, visits_begun, Leaves, some_made, broken_off, all_made}

-- ---- what is told changes no file

shown_made : (bytes : Bytes) (own : Status) (old new : Outside) (status : Status) → ShowsEnd bytes own old new status → new.made ≡ old.made
shown_made bytes own old new _ (all_shown showed keeps) = showed.1.made
shown_made bytes own old new status (stopped part mid short showed keeps rose says) = (said_only _ _ mid new status says).made ∙ showed.1.made
shown_made bytes own old new _ (unshown part begins showed keeps) = showed.1.made

pub told_made : (s : Said) (old new : Outside) (status : Status) → IsSaid s old new status → new.made ≡ old.made
told_made s old new status (is_shown none shows) = shown_made s.shown s.status old new status shows
told_made s old new status (is_complained none says) = (said_only s.complained s.status old new status says).made

pub tells_made : (n : FileNames) (why : Unwritten) (old new : Outside) (status : Status) → Blames n why → Tells n why old new status → new.made ≡ old.made
tells_made n (Fault file) old new status blames tells =
    let s = some_of (name_at n file) blames in
    (said_only (write_fault_line s.0) exit.WriteFault old new status (if_some (name_at n file) (λ name. Says (write_fault_line name) exit.WriteFault old new status) s.0 s.1 tells)).made
tells_made n Memory old new status blames (own, same) = ap (λ (o : Outside). o.made) same

-- ---- the files that stand outside

-- after such a stage
made_by : (x : Answer) (inputs : List Word) (fs : List (Word × Bytes)) (old new : Outside) → LeadsTo x (looked_for []) (made_after [] fs) old new → new.made ≡ puts_all old.made fs
made_by x inputs fs old new leads = (leads old (steps_lead.start x old)).more.made

-- after they are made, and these texts are added
made_with : (x : Answer) (n : FileNames) (texts : Texts) (old mid new : Outside) → MakesAll n old mid → Adds n texts mid new → new.made ≡ puts_all old.made (files n texts)
made_with x n texts old mid new made more = made_by x [] (files n texts) old new (λ start way. more.leads no_texts x [] start (made.leads x [] start way))

-- the visits before the first cycle, and those of the cycles that were begun
sum_of : (before first after c d : ℕ) → first ≤ before + c → after ≤ first + d → after ≤ before + c + d
sum_of before first after c d p q = omega (arith, p, q)

-- ---- a run whose files are made

-- all is written
pub whole_leaves : (x : Answer) (a : Asking) (r : Run) (was going : Going) (old made mid new : Outside) (is_counted : Bool) (before first after : ℕ) (ending : Ending) (status : Status) → first ≤ before + first_visits a → MakesAll a.names old made → RunsWhole a r was going made mid (spent_between is_counted first after) (Ok ending) → new.made ≡ mid.made
    → Leaves a r was.drawn old new (spent_between is_counted before after) status
whole_leaves x a r was going old made mid new is_counted before first after ending status cost creates (has, is, within) same =
    all_made (same ∙ made_with x a.names (whole_texts a r was.drawn) old made mid creates is.adds)
    (OnTrue_from is_counted _ (λ on. sum_of before first after (first_visits a) (visits_begun a r after_cycles) cost (OnTrue_at on within)))

-- it broke off, and that is told
pub broken_leaves : (x : Answer) (a : Asking) (why : Unwritten) (r : Run) (w : Option Showing) (old made mid new : Outside) (is_counted : Bool) (before first after : ℕ) (status : Status) → first ≤ before + first_visits a → MakesAll a.names old made → BreaksOff a why r w made mid (spent_between is_counted first after) → Tells a.names why mid new status
    → Leaves a r w old new (spent_between is_counted before after) status
broken_leaves x a why r w old made mid new is_counted before first after status cost creates b tells =
    let done = texts_of (pieces_before a r w b.point) in
    let part = both done b.falls.part in
    let more : Adds a.names part made mid = adds_both a.names done b.falls.part made b.between mid b.whole.adds b.falls.adds in
    let same = tells_made a.names why mid new status (falls_blames a.names why (pieces_begun a r w b.point) b.between mid b.falls) tells in
    broken_off why b.point part
    (record { is_point = b.is_point; begun = b.falls.part; order = b.falls.order; lacks = b.falls.lacks; texts = refl })
    (same ∙ made_with x a.names part old made mid creates more)
    (record {
      moment = mid;
      quiet = more.only.complained ∙ creates.only.complained;
      unfailed = more.only.complain_faults ∙ creates.only.complain_faults;
      fault = fault_after why old made mid creates.sure (fault_after why made b.between mid b.whole.sure b.falls.fault);
      tells = tells;
    })
    (OnTrue_from is_counted _ (λ on. sum_of before first after (first_visits a) (visits_begun a r b.point) cost (OnTrue_at on b.within)))

-- ---- a run whose files are not made

-- a file could not be, or memory ran out, and that is told
pub unmade_leaves : (x : Answer) (a : Asking) (r : Run) (w : Option Showing) (why : Unwritten) (old mid new : Outside) (is_counted : Bool) (before first : ℕ) (status : Status) → first ≤ before + first_visits a → FallsMaking a.names why old mid → Tells a.names why mid new status
    → Leaves a r w old new (spent_between is_counted before first) status
unmade_leaves x a r w why old mid new is_counted before first status cost f tells =
    let same = tells_made a.names why mid new status (making_blames a.names why old mid f) tells in
    some_made why f.file f.there (same ∙ made_by x [] (made_before a.names f.file) old mid (f.leads x []))
    (record { moment = mid; quiet = f.only.complained; unfailed = f.only.complain_faults; fault = f.fault; tells = tells })
    (OnTrue_from is_counted _ (λ on. cost))

-- memory ran out before the first
pub none_leaves : (a : Asking) (r : Run) (w : Option Showing) (now : Outside) (is_counted : Bool) (before first : ℕ) → first ≤ before + first_visits a → Leaves a r w now now (spent_between is_counted before first) exit.NoMemory
none_leaves a r w now is_counted before first cost =
    some_made Memory Log tt refl (record { moment = now; quiet = refl; unfailed = refl; fault = refl; tells = (refl, refl) }) (OnTrue_from is_counted _ (λ on. cost))

-- with the frames that are asked for, and the most cycles that the run may have
pub leaves_as : (a : Asking) (s : Standing) (k n : ℕ) (w v : Option Showing) (old new : Outside) (spent : Spent) (status : Status) → k ≡ n → w ≡ v → Leaves a (rest_of k s) w old new spent status → Leaves a (rest_of n s) v old new spent status
leaves_as a s k n w v old new spent status number drawn l =
    subst (λ (m : ℕ). Leaves a (rest_of m s) v old new spent status) number (subst (λ (x : Option Showing). Leaves a (rest_of k s) x old new spent status) drawn l)
