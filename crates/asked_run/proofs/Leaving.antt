-- What a run leaves, after what is read before it.
use Rattle.std.proofs.Common.{◌≡◌, ℕ, Bool, true, inl, inr, Option, Result, Ok, Err, sym, ap, ◌∙◌, subst}
use Rattle.quantity.specs.Bytes.{Bytes}
use Rattle.room_edge.specs.Faults.{Rose}
use Rattle.room_edge.specs.FaultCounts.{ComplaintFaultCounted}
use Rattle.room_edge.specs.Outside.{Outside}
use Rattle.room_edge.specs.Only.{OnlyInput}
use Rattle.model_tree.specs.Tree.{Tree}
use Rattle.run_model.specs.Run.{Run, most_cycles}
use Rattle.event_list.specs.declared.refusal.EventRefusal.{EventRefusal}
use Rattle.event_list.specs.declared.refusal.EventRefusal.TheVariants as E
use Rattle.text_forms.specs.declared.refusal.StateRefusal.{StateRefusal}
use Rattle.text_forms.specs.declared.refusal.StateRefusal.TheVariants as S
use Rattle.asked_words.specs.declared.asked.Asked as code
use Rattle.asked_words.specs.declared.group.GroupAt.{GroupAt}
use Rattle.asked_words.specs.Shown.{asked_of}
use Rattle.answer_model.proofs.Said.{said_only}
use Rattle.answer_model.specs.Asked.{Asked}
use Rattle.answer_model.specs.Started.{Started, Stopped}
use Rattle.answer_model.specs.ByWords.{started_by_words}
use Rattle.answer_model.specs.RunOf as answered
use Rattle.answer_model.specs.Headline.{puts_all}
use Rattle.answer_model.specs.Visits.{is_counted}
use Rattle.answer_model.specs.declared.status.Status.{Status}
use Rattle.answer_model.specs.declared.status.Status.TheVariants as exit
use Rattle.answer_model.specs.Endings.{Says, whole, cut, unsaid}
use Rattle.answer_model.specs.Status.{IsOf, of_run}
use Rattle.run_leaves.specs.Standing.{Standing, tree_in}
use Rattle.run_loop.specs.declared.outputs.Unwritten.{Unwritten}
use Rattle.run_loop.specs.Texts.{FileNames, files, made_before}
use Rattle.run_loop.specs.Groups.{showing_at_start}
use Rattle.run_loop.specs.Showing.{Showing}
use Rattle.run_loop.specs.Answers.{MayRun}
use Rattle.run_loop.specs.Left.{rest_of}
use Rattle.run_loop.specs.Ran.{asking_of}
use Rattle.run_loop.specs.Leaves.{Asking, Spent, spent_between as spent_of, whole_texts, TellsWhy, Leaves, some_made, broken_off, all_made}
use Rattle.run_loop.proofs.Adding.{fault_after}
use Rattle.run_inputs.specs.declared.unread.Unread.{Unread}
use Rattle.run_inputs.specs.declared.unread.Unread.TheVariants as why
use Rattle.run_inputs.specs.Unread.{TellsEvents, TellsState, TellsUnread}
use Rattle.asked_run.specs.Stages.{StandsAt}
use Rattle.asked_run.specs.Leaving.{IsUnrun, asking_for, RunLeaves, LeavesOf, OnlyRunsLeave}
use Rattle.asked_run.proofs.Orders.{count_less}
use Rattle.asked_run.proofs.Started.{same_run}

-- ---- no run

pub of_unrun : (r : Result Started Stopped) (old new : Outside) (before after : ℕ) (s : Status) → IsUnrun old new before after s → LeavesOf r old new before after s
of_unrun (Ok x) old new before after s u = inl u
of_unrun (Err e) old new before after s u = u

-- ---- what is told makes no file

events_tell_made : (reason : EventRefusal) (old new : Outside) (s : Status) → TellsEvents reason old new s → new.made ≡ old.made
events_tell_made (E.BadEventLine line) old new s says = (said_only _ _ old new s says).made
events_tell_made (E.UnknownPort line) old new s says = (said_only _ _ old new s says).made
events_tell_made (E.TooLarge line) old new s says = (said_only _ _ old new s says).made
events_tell_made E.Memory old new s (own, same) = ap (λ (o : Outside). o.made) same

state_tell_made : (reason : StateRefusal) (old new : Outside) (s : Status) → TellsState reason old new s → new.made ≡ old.made
state_tell_made (S.BadStateLine line) old new s says = (said_only _ _ old new s says).made
state_tell_made (S.EndBefore line) old new s says = (said_only _ _ old new s says).made
state_tell_made (S.TooLarge line) old new s says = (said_only _ _ old new s says).made
state_tell_made S.Memory old new s (own, same) = ap (λ (o : Outside). o.made) same

pub tells_made : (reason : Unread) (old new : Outside) (s : Status) → TellsUnread reason old new s → new.made ≡ old.made
tells_made why.Usage old new s says = (said_only _ _ old new s says).made
tells_made (why.Missing name) old new s says = (said_only _ _ old new s says).made
tells_made (why.ReadFault name) old new s says = (said_only _ _ old new s says).made
tells_made (why.Model line kind) old new s says = (said_only _ _ old new s says).made
tells_made (why.Events refusal) old new s tells = events_tell_made refusal old new s tells
tells_made (why.State refusal) old new s tells = state_tell_made refusal old new s tells
tells_made why.Memory old new s (own, same) = ap (λ (o : Outside). o.made) same

-- ---- and fails to be written as a complaint alone

complaint_by_said : (line : Bytes) (own : Status) (old mid new : Outside) (s : Status) → mid.complain_faults ≡ old.complain_faults → (own ≡ exit.WriteFault → ⊥) → Says line own mid new s → s ≡ exit.WriteFault → ComplaintFaultCounted old new
complaint_by_said line own old mid new _ same other (whole said writes complaints) five = absurd (other five)
complaint_by_said line own old mid new _ same other (cut part short said writes complaint) five = subst (λ (n : ℕ). Rose n new.complain_faults) same complaint
complaint_by_said line own old mid new _ same other (unsaid part short said writes complaints) five = absurd cc

-- where memory ran out
no_complaint : (old new : Outside) (s : Status) → s ≡ exit.NoMemory → s ≡ exit.WriteFault → ComplaintFaultCounted old new
no_complaint old new s own five = let both : exit.NoMemory ≡ exit.WriteFault = sym own ∙ five in absurd cc

events_tell_complaint : (reason : EventRefusal) (old mid new : Outside) (s : Status) → mid.complain_faults ≡ old.complain_faults → TellsEvents reason mid new s → s ≡ exit.WriteFault → ComplaintFaultCounted old new
events_tell_complaint (E.BadEventLine line) old mid new s same says = complaint_by_said _ exit.EventsRefused old mid new s same (λ e. cc) says
events_tell_complaint (E.UnknownPort line) old mid new s same says = complaint_by_said _ exit.EventsRefused old mid new s same (λ e. cc) says
events_tell_complaint (E.TooLarge line) old mid new s same says = complaint_by_said _ exit.EventsRefused old mid new s same (λ e. cc) says
events_tell_complaint E.Memory old mid new s same (own, is) = no_complaint old new s own

state_tell_complaint : (reason : StateRefusal) (old mid new : Outside) (s : Status) → mid.complain_faults ≡ old.complain_faults → TellsState reason mid new s → s ≡ exit.WriteFault → ComplaintFaultCounted old new
state_tell_complaint (S.BadStateLine line) old mid new s same says = complaint_by_said _ exit.StateRefused old mid new s same (λ e. cc) says
state_tell_complaint (S.EndBefore line) old mid new s same says = complaint_by_said _ exit.StateRefused old mid new s same (λ e. cc) says
state_tell_complaint (S.TooLarge line) old mid new s same says = complaint_by_said _ exit.StateRefused old mid new s same (λ e. cc) says
state_tell_complaint S.Memory old mid new s same (own, is) = no_complaint old new s own

pub tells_complaint : (reason : Unread) (old mid new : Outside) (s : Status) → mid.complain_faults ≡ old.complain_faults → TellsUnread reason mid new s → s ≡ exit.WriteFault → ComplaintFaultCounted old new
tells_complaint why.Usage old mid new s same says = complaint_by_said _ exit.Usage old mid new s same (λ e. cc) says
tells_complaint (why.Missing name) old mid new s same says = complaint_by_said _ exit.Missing old mid new s same (λ e. cc) says
tells_complaint (why.ReadFault name) old mid new s same says = complaint_by_said _ exit.ReadFault old mid new s same (λ e. cc) says
tells_complaint (why.Model line kind) old mid new s same says = complaint_by_said _ exit.ModelRefused old mid new s same (λ e. cc) says
tells_complaint (why.Events refusal) old mid new s same tells = events_tell_complaint refusal old mid new s same tells
tells_complaint (why.State refusal) old mid new s same tells = state_tell_complaint refusal old mid new s same tells
tells_complaint why.Memory old mid new s same (own, is) = no_complaint old new s own

-- ---- after something was read

later_unrun : (old mid new : Outside) (before after : ℕ) (s : Status) → OnlyInput old mid → IsUnrun mid new before after s → IsUnrun old new before after s
later_unrun old mid new before after s only_input u =
    record {
      made = u.made ∙ only_input.made;
      visits = u.visits;
      complaint = λ five. subst (λ (n : ℕ). Rose n new.complain_faults) only_input.complain_faults (u.complaint five);
    }

-- what was read before changes no count and no complaint
later_tells : (n : FileNames) (reason : Unwritten) (old mid new : Outside) (s : Status) → OnlyInput old mid → TellsWhy n reason mid new s → TellsWhy n reason old new s
later_tells n reason old mid new s only_input told =
    record {
      moment = told.moment;
      quiet = told.quiet ∙ only_input.complained;
      unfailed = told.unfailed ∙ only_input.complain_faults;
      fault = fault_after reason old mid told.moment only_input.write_faults told.fault;
      tells = told.tells;
    }

later_leaves : (a : Asking) (r : Run) (w : Option Showing) (old mid new : Outside) (spent : Spent) (s : Status) → OnlyInput old mid → Leaves a r w mid new spent s → Leaves a r w old new spent s
later_leaves a r w old mid new spent s only_input (some_made reason file there made told within) =
    some_made reason file there (made ∙ ap (λ m. puts_all m (made_before a.names file)) only_input.made) (later_tells a.names reason old mid new s only_input told) within
later_leaves a r w old mid new spent s only_input (broken_off reason point part breaks made told within) =
    broken_off reason point part breaks (made ∙ ap (λ m. puts_all m (files a.names part)) only_input.made) (later_tells a.names reason old mid new s only_input told) within
later_leaves a r w old mid new spent s only_input (all_made made within) = all_made (made ∙ ap (λ m. puts_all m (files a.names (whole_texts a r w))) only_input.made) within

later_run : (x : Started) (old mid new : Outside) (before after : ℕ) (s : Status) → OnlyInput old mid → RunLeaves x mid new before after s → RunLeaves x old new before after s
later_run x old mid new before after s only_input (inl u) = inl (later_unrun old mid new before after s only_input u)
later_run x old mid new before after s only_input (inr (known, l)) =
    inr (known, later_leaves (asking_for x.asked x.tree) (answered.run_of x) (showing_at_start x.tree x.from x.asked.frames) old mid new (spent_of (is_counted x.asked) before after) s only_input l)

-- the run of what is started, after the reading
pub leaves_of_start : (x : Started) (r : Result Started Stopped) (old mid new : Outside) (before after : ℕ) (s : Status) → r ≡ Ok x → OnlyInput old mid → RunLeaves x mid new before after s → LeavesOf r old new before after s
leaves_of_start x r old mid new before after s is only_input leaves =
    subst (λ (q : Result Started Stopped). LeavesOf q old new before after s) (sym is) (later_run x old mid new before after s only_input leaves)

-- ---- the run

-- that of what is started, with the visits that are counted of it
pub leaves_started : (a : code.Asked) (group : Option GroupAt) (r : Standing) (x : Started) (old new : Outside) (counted : Bool) (before after : ℕ) (s : Status) → MayRun a group r → StandsAt a r x → (is_counted (asked_of a) ≡ true → counted ≡ true)
    → Leaves (asking_of a r) (rest_of (most_cycles a.end a.given.limit) r) (showing_at_start (tree_in r) x.from (asked_of a).frames) old new (spent_of counted before after) s
    → Leaves (asking_for x.asked x.tree) (answered.run_of x) (showing_at_start x.tree x.from x.asked.frames) old new (spent_of (is_counted x.asked) before after) s
leaves_started a group r x old new counted before after s may at_start less leaves =
    let asks = asking_of a r in
    let first = count_less counted (is_counted (asked_of a)) asks (rest_of (most_cycles a.end a.given.limit) r) (showing_at_start (tree_in r) x.from (asked_of a).frames) old new before after s less leaves in
    let Left : Asked → Tree → Run → Type 0 = λ asked tree run. Leaves (asking_for asked tree) run (showing_at_start tree x.from asked.frames) old new (spent_of (is_counted asked) before after) s in
    let at_run = subst (Left (asked_of a) (tree_in r)) (same_run a group r x may at_start) first in
    let at_tree = subst (λ (t : Tree). Left (asked_of a) t (answered.run_of x)) at_start.tree_is at_run in
    subst (λ (y : Asked). Left y x.tree (answered.run_of x)) at_start.asked_is at_tree

-- ---- statuses

run_left : (x : Started) (old new : Outside) (before after : ℕ) (s : Status) → RunLeaves x old new before after s → ¬ IsOf of_run s → IsUnrun old new before after s
run_left x old new before after s (inl u) other = u
run_left x old new before after s (inr l) other = absurd (other l.0)

of_left : (r : Result Started Stopped) (old new : Outside) (before after : ℕ) (s : Status) → LeavesOf r old new before after s → ¬ IsOf of_run s → IsUnrun old new before after s
of_left (Ok x) old new before after s l other = run_left x old new before after s l other
of_left (Err e) old new before after s l other = l

pub only_runs_leave : OnlyRunsLeave
only_runs_leave = λ words fs classes old new before after s l other. of_left (started_by_words words fs classes) old new before after s l other
