-- The next instant of a run, and what comes at it.
use Rattle.std.proofs.Common.{◌≡◌, ℕ, zero, suc, ◌≤◌, ◌<◌, min, Bool, true, false, Option, Some, None, List, [], ◌∷◌, refl, sym, ◌∙◌, ap, subst, arith}
use Rattle.std.specs.Prelude.{nat_lt, nat_le, if◌then◌else◌, IfSome}
use Rattle.std.specs.List.{All, filter}
use Rattle.std.proofs.lemmas.List.Elements.{All-filter}
use Rattle.event_list.specs.Events.{Event}
use Rattle.event_list.specs.Shown.{first_event_time}
use Rattle.model_tree.specs.Tree.{Tree}
use Rattle.quantity.specs.Times.{earlier}
use Rattle.run_model.specs.Cycle.{next_of_all}
use Rattle.rule_tree.specs.declared.outcome.RuleStop.{RuleStop}
use Rattle.run_model.specs.Run.{Cycle, RunState, unless_stop, ended, done, too_many, first_event, next_instant, next_at, next_cycle, cycled_at, cycles_at}
use Rattle.run_model.specs.Fitting.{FitsTree}
use Rattle.sparse_cycle.specs.Laws.{NextIsSparse}
use Rattle.sparse_cycle.specs.Sparse.{cycle_parts, next_of_parts, sparse_at, sparse_next}

-- ---- events

-- no event is before the first of events that stand by rising time
pub first-event : (es : List Event) → IfSome (first_event_time es) (λ t. All (λ (e : Event). t ≤ e.time) es) → first_event es ≡ first_event_time es
first-event [] all = refl
first-event (e ∷ es) all = least-first e.time (first_event es) (none-before e.time es (λ k d lt. all (suc k) d (omega (arith, lt))))
  where
    none-before : (t : ℕ) (es : List Event) → All (λ (x : Event). t ≤ x.time) es → IfSome (first_event es) (λ u. t ≤ u)
    none-before t [] h = tt
    none-before t (x ∷ xs) h = by t x.time (first_event xs) (h 0 x (omega arith)) (none-before t xs (λ k d lt. h (suc k) d (omega (arith, lt))))
      where
        by : (t u : ℕ) (o : Option ℕ) → t ≤ u → IfSome o (λ v. t ≤ v) → IfSome (earlier (Some u) o) (λ v. t ≤ v)
        by t u None le h = le
        by t u (Some v) le h = omega (arith, le, h)

    least-first : (t : ℕ) (o : Option ℕ) → IfSome o (λ u. t ≤ u) → earlier (Some t) o ≡ Some t
    least-first t None h = refl
    least-first t (Some u) h = let m : min t u ≡ t = omega (arith, h) in ap Some m

-- the same of a time that is told
pub first-event-of : (es : List Event) (o : Option ℕ) → o ≡ first_event_time es → IfSome o (λ t. All (λ (e : Event). t ≤ e.time) es) → o ≡ first_event es
first-event-of es o told all =
    told ∙ sym (first-event es (subst (λ (x : Option ℕ). IfSome x (λ t. All (λ (e : Event). t ≤ e.time) es)) told all))

least-right : (a b : Option ℕ) (t : ℕ) → earlier a b ≡ Some t → IfSome b (λ u. t ≤ u)
least-right a None t e = tt
least-right None (Some u) t e = let s : u ≡ t = ap (λ o. unwrap o t) e in omega (arith, s)
  where
    unwrap : Option ℕ → ℕ → ℕ
    unwrap None d = d
    unwrap (Some n) d = n
least-right (Some m) (Some u) t e = let s : min m u ≡ t = ap (λ o. unwrap o t) e in omega (arith, s)
  where
    unwrap : Option ℕ → ℕ → ℕ
    unwrap None d = d
    unwrap (Some n) d = n

least-parts : (t u : ℕ) (o : Option ℕ) → IfSome (earlier (Some u) o) (λ v. t ≤ v) → (t ≤ u) × IfSome o (λ v. t ≤ v)
least-parts t u None h = (h, tt)
least-parts t u (Some v) h = (omega (arith, h), omega (arith, h))

each-later : (es : List Event) (t : ℕ) → IfSome (first_event es) (λ u. t ≤ u) → All (λ (e : Event). t ≤ e.time) es
each-later [] t h k d lt = absurd (omega (arith, lt))
each-later (e ∷ es) t h zero d lt = (least-parts t e.time (first_event es) h).0
each-later (e ∷ es) t h (suc k) d lt = each-later es t (least-parts t e.time (first_event es) h).1 k d (omega (arith, lt))

-- no event is before the next instant
pub events-later : (s : RunState) (t : ℕ) → next_instant s ≡ Some t → All (λ (e : Event). t ≤ e.time) s.events
events-later s t next = each-later s.events t (least-right (next_of_all s.leaf_states) (first_event s.events) t next)

-- a property of all events holds of those that are left
pub all-left : (P : Event → Type 0) (p : Event → Bool) (es : List Event) → All P es → All P (filter p es)
all-left P p es all = All-filter p P es all

-- ---- verdicts

-- no instant, or one past the end, and the run is done
pub done-where-none : (tree : Tree) (end limit : ℕ) (s : RunState) → next_instant s ≡ None → next_cycle tree end limit s ≡ ended done
unfolding next_cycle
done-where-none tree end limit s none = ap (next_at tree end limit s) none

pub done-past-end : (tree : Tree) (end limit : ℕ) (s : RunState) (t : ℕ) → next_instant s ≡ Some t → end < t → next_cycle tree end limit s ≡ ended done
unfolding next_cycle
done-past-end tree end limit s t next past =
    ap (next_at tree end limit s) next
    ∙ ap (λ b. if b then ended done else if nat_le limit (cycles_at t s) then ended (too_many t) else cycled_at tree t s) (lt-true end t past)
  where
    lt-true : (a b : ℕ) → a < b → nat_lt a b ≡ true
    lt-true a b lt = grind (arith, lt)

lt-false : (a b : ℕ) → b ≤ a → nat_lt a b ≡ false
lt-false a b le = grind (arith, le)

-- as many cycles as the limit
pub too-many : (tree : Tree) (end limit : ℕ) (s : RunState) (t : ℕ) → next_instant s ≡ Some t → t ≤ end → limit ≤ cycles_at t s → next_cycle tree end limit s ≡ ended (too_many t)
unfolding next_cycle
too-many tree end limit s t next within full =
    ap (next_at tree end limit s) next
    ∙ ap (λ b. if b then ended done else if nat_le limit (cycles_at t s) then ended (too_many t) else cycled_at tree t s) (lt-false end t within)
    ∙ ap (λ b. if b then ended (too_many t) else cycled_at tree t s) (le-true limit (cycles_at t s) full)
  where
    le-true : (a b : ℕ) → a ≤ b → nat_le a b ≡ true
    le-true a b le = grind (arith, le)

-- else the next cycle is what its parts make
pub next-by-parts : NextIsSparse → (tree : Tree) (end limit : ℕ) (s : RunState) (t : ℕ) → FitsTree tree s.leaf_states → next_instant s ≡ Some t → t ≤ end → cycles_at t s < limit
    → next_cycle tree end limit s ≡ next_of_parts t s (cycle_parts tree t s)
next-by-parts sparse tree end limit s t fits next within few =
    sparse tree end limit s fits
    ∙ ap (sparse_next tree end limit s) next
    ∙ ap (λ b. if b then ended done else if nat_le limit (cycles_at t s) then ended (too_many t) else sparse_at tree t s) (lt-false end t within)
    ∙ ap (λ b. if b then ended (too_many t) else sparse_at tree t s) (le-false limit (cycles_at t s) few)
  where
    le-false : (a b : ℕ) → b < a → nat_le a b ≡ false
    le-false a b lt = grind (arith, lt)

-- an instant that is not past the end is not the end of a run
pub never-done : (tree : Tree) (end limit : ℕ) (s : RunState) (t : ℕ) → next_instant s ≡ Some t → t ≤ end → next_cycle tree end limit s ≡ ended done → ⊥
unfolding next_cycle
never-done tree end limit s t next within e =
    let at : next_at tree end limit s (Some t) ≡ ended done = sym (ap (next_at tree end limit s) next) ∙ e in
    by-limit (nat_le limit (cycles_at t s))
    (sym (ap (λ b. if b then ended done else if nat_le limit (cycles_at t s) then ended (too_many t) else cycled_at tree t s) (lt-false end t within)) ∙ at)
  where
    by-stop : (o : Option (ℕ × RuleStop)) (c : Cycle) (n : RunState) → unless_stop t o c n ≡ ended done → ⊥
    by-stop None c n e = absurd cc
    by-stop (Some p) c n e = absurd cc

    by-limit : (b : Bool) → (if b then ended (too_many t) else cycled_at tree t s) ≡ ended done → ⊥
    by-limit true e = absurd cc
    by-limit false e = by-stop _ _ _ e
