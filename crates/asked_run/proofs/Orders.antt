-- A run whose messages are served in an order.
use Rattle.std.proofs.Common.{◌≡◌, ℕ, Bool, true, false, Option, Some, None, sym, subst}
use Rattle.std.specs.Prelude.{IfSome}
use Rattle.std.specs.Bool.{OnTrue, then_some}
use Rattle.std.specs.Option.{is_none, option_map}
use Rattle.std.proofs.lemmas.Bool.{OnTrue_at, OnTrue_from}
use Rattle.room_edge.specs.Outside.{Outside}
use Rattle.run_model.specs.Run.{Run}
use Rattle.asked_words.specs.declared.asked.Asked as code
use Rattle.asked_words.specs.Shown.{text_of_name, asked_of}
use Rattle.answer_model.specs.Visits.{is_counted}
use Rattle.answer_model.specs.declared.status.Status.{Status}
use Rattle.run_leaves.specs.Marking.{Marking, at_seed}
use Rattle.run_loop.specs.Showing.{Showing}
use Rattle.run_loop.specs.Leaves.{Asking, spent_between, Leaves, some_made, broken_off, all_made}
use Rattle.run_loop.specs.Marked.{IsOrdered}

-- ---- no state is asked for

by_seed : (seed : Option ℕ) (m : Option Marking) (P Q : Type 0) → m ≡ option_map at_seed seed → IfSome seed (λ n. P × Q) → IfSome m (λ x. Q)
by_seed seed m P Q is unsaved = subst (λ (o : Option Marking). IfSome o (λ x. Q)) (sym is) (by seed unsaved)
  where
    by : (o : Option ℕ) → IfSome o (λ n. P × Q) → IfSome (option_map at_seed o) (λ x. Q)
    by None h = tt
    by (Some n) h = h.1

pub no_state_asked : (a : code.Asked) (m : Option Marking) → m ≡ option_map at_seed a.given.seed → IfSome a.given.seed (λ seed. (text_of_name a.given.save ≡ None) × (text_of_name a.given.state ≡ None)) → IfSome m (λ x. text_of_name a.given.state ≡ None)
no_state_asked a m is unsaved = by_seed a.given.seed m (text_of_name a.given.save ≡ None) (text_of_name a.given.state ≡ None) is unsaved

-- ---- and no visits are counted

pub uncounted : (a : code.Asked) (m : Marking) → IsOrdered a (Some m) → is_counted (asked_of a) ≡ true → false ≡ true
uncounted a m o counted = by a.given.seed o.marked counted
  where
    by : (seed : Option ℕ) → Some m ≡ option_map at_seed seed → is_none seed ≡ true → false ≡ true
    by None is e = absurd (cc)
    by (Some n) is e = e

-- where no more are counted than were
pub count_less : (from to : Bool) (a : Asking) (r : Run) (w : Option Showing) (old new : Outside) (before after : ℕ) (status : Status) → (to ≡ true → from ≡ true) → Leaves a r w old new (spent_between from before after) status → Leaves a r w old new (spent_between to before after) status
count_less from to a r w old new before after status less (some_made why file there made told within) = some_made why file there made told (OnTrue_from to _ (λ on. OnTrue_at (less on) within))
count_less from to a r w old new before after status less (broken_off why point part breaks made told within) =
    broken_off why point part breaks made told (OnTrue_from to _ (λ on. OnTrue_at (less on) within))
count_less from to a r w old new before after status less (all_made made within) = all_made made (OnTrue_from to _ (λ on. OnTrue_at (less on) within))

-- the bound, where there is one
pub bounded_by : (is_counted : Bool) (most : ℕ) (P : ℕ → Type 0) → OnTrue is_counted (P most) → IfSome (then_some is_counted most) P
bounded_by true most P h = h
bounded_by false most P h = tt
