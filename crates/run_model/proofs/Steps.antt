-- One cycle, taken apart.
use Rattle.std.proofs.Common.{◌≡◌, ℕ, ◌<◌, ◌≤◌, Bool, true, false, cond, Option, Some, None, List, refl, arith}
use Rattle.std.specs.Prelude.{nat_lt, nat_le}
use Rattle.std.proofs.lemmas.Bool.Decides.{nat_tests}
use Rattle.rule_tree.specs.declared.outcome.RuleStop.{RuleStop}
use Rattle.model_tree.specs.Tree.{Tree}
use Rattle.run_model.specs.Cycle.{Moved, output_bags, moves, first_stop}
use Rattle.run_model.specs.Run.{Cycle, RunState, done, too_many, ended, cycled, next_instant, cycles_at, at_top, cycle_of, state_after, unless_stop, cycled_at, next_at, next_cycle}

-- what becomes of the leaves at an instant
abbrev pub moves_at : Tree → ℕ → RunState → List Moved
moves_at tree t s = moves tree t s.leaf_states (output_bags t s.leaf_states) (at_top tree t s.events)

pub record Cycled (tree : Tree) (end limit : ℕ) (s n : RunState) (c : Cycle) (t : ℕ) : Type 0 where
  pub instant : next_instant s ≡ Some t
  pub within : t ≤ end
  pub few : cycles_at t s < limit
  pub cycle : c ≡ cycle_of tree t (output_bags t s.leaf_states) (at_top tree t s.events) (moves_at tree t s)
  pub next : n ≡ state_after t s (moves_at tree t s)
  pub none : first_stop 0 (moves_at tree t s) ≡ None

module _ (tree : Tree) (end limit : ℕ) (s n : RunState) (c : Cycle) where
  by_stop : (t : ℕ) (o : Option (ℕ × RuleStop)) (d : Cycle) (m : RunState) → unless_stop t o d m ≡ cycled c n → (c ≡ d) × (n ≡ m) × (o ≡ None)
  by_stop t None d m e = (cc, cc, refl)
  by_stop t (Some p) d m e = absurd (cc)

  by_limit : (t : ℕ) (b : Bool) → nat_le limit (cycles_at t s) ≡ b → next_instant s ≡ Some t → t ≤ end → cond b (ended (too_many t)) (cycled_at tree t s) ≡ cycled c n → Cycled tree end limit s n c t
  by_limit t true is instant within e = absurd (cc)
  by_limit t false is instant within e =
      let both = by_stop t (first_stop 0 (moves_at tree t s)) (cycle_of tree t (output_bags t s.leaf_states) (at_top tree t s.events) (moves_at tree t s)) (state_after t s (moves_at tree t s)) e in
      record { instant = instant; within = within; few = grind (arith, nat_tests); cycle = both.0; next = both.1; none = both.2 }

  by_end : (t : ℕ) (b : Bool) → nat_lt end t ≡ b → next_instant s ≡ Some t → cond b (ended done) (cond (nat_le limit (cycles_at t s)) (ended (too_many t)) (cycled_at tree t s)) ≡ cycled c n → Cycled tree end limit s n c t
  by_end t true is instant e = absurd (cc)
  by_end t false is instant e = let within : t ≤ end = grind (arith, nat_tests) in by_limit t (nat_le limit (cycles_at t s)) refl instant within e

  by_instant : (o : Option ℕ) → next_instant s ≡ o → next_at tree end limit s o ≡ cycled c n → (t : ℕ) × Cycled tree end limit s n c t
  by_instant None is e = absurd (cc)
  by_instant (Some t) is e = (t, by_end t (nat_lt end t) refl is e)

  -- a cycle is that of the next instant
  pub is_cycled : next_cycle tree end limit s ≡ cycled c n → (t : ℕ) × Cycled tree end limit s n c t
  unfolding next_cycle
  is_cycled e = by_instant (next_instant s) refl e
