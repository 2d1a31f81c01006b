-- A run whose cycles are served in any order is the reference run.
use Rattle.std.proofs.Common.{◌≡◌, ℕ, zero, suc, ◌*◌, true, Option, Some, None, List, length, refl, ◌∙◌, ap}
use Rattle.std.specs.Prelude.{nat_lt, nat_le, if◌then◌else◌}
use Rattle.model_tree.specs.Tree.{Tree}
use Rattle.model_tree.specs.Sound.{is_sound_part}
use Rattle.run_model.specs.Fitting.{FitsTree, CycleFits}
use Rattle.run_model.specs.Run.{RunState, Run, Next, ended, cycled, done, too_many, cycles_at, next_instant, next_at, next_cycle, run_behind, at_last, run_from, cycle_in_front}
use Rattle.served_tree.specs.Processors.{size}
use Rattle.served_tree.specs.Linked.{HasPorts}
use Rattle.served_tree.specs.Served.{served_at, served_next, served_from, RunsInAnyOrder}
use Rattle.served_tree.proofs.Whole.{any-order-serves}
use Rattle.served_tree.proofs.Sound.{sound-serves}

module _ (tree : Tree) (end limit : ℕ) (sound : is_sound_part tree ≡ true) (ports : HasPorts tree) (fit-on : CycleFits) where
  at-instant : (s : RunState) (numbers : List ℕ) → FitsTree tree s.leaf_states
      → length numbers ≡ 4 * size tree → (o : Option ℕ)
      → served_at tree end limit s numbers o ≡ next_at tree end limit s o
  at-instant s numbers fits many None = refl
  at-instant s numbers fits many (Some t) =
      ap (λ n. if nat_lt end t then ended done else if nat_le limit (cycles_at t s) then ended (too_many t) else n)
      (any-order-serves.cycle tree t s numbers (sound-serves tree s.leaf_states sound ports fits) many)

  next-same : (s : RunState) (numbers : List ℕ) → FitsTree tree s.leaf_states
      → length numbers ≡ 4 * size tree
      → served_next tree end limit s numbers ≡ next_cycle tree end limit s
  unfolding next_cycle
  next-same s numbers fits many = at-instant s numbers fits many (next_instant s)

  behind-same : (s : RunState) (n : Next) (f g : RunState → Run)
      → ((m : RunState) → FitsTree tree m.leaf_states → f m ≡ g m) → FitsTree tree s.leaf_states
      → next_cycle tree end limit s ≡ n → run_behind s n f ≡ run_behind s n g
  behind-same s (ended v) f g same fits is = refl
  behind-same s (cycled c m) f g same fits is = ap (cycle_in_front c) (same m (fit-on tree end limit s m c fits is).1)

  runs-same : (n : ℕ) (s : RunState) (numbers : ℕ → List ℕ) → FitsTree tree s.leaf_states
      → ((k : ℕ) → length (numbers k) ≡ 4 * size tree)
      → served_from n tree end limit s numbers ≡ run_from n tree end limit s
  unfolding served_from run_from
  runs-same zero s numbers fits many = ap (at_last s) (next-same s (numbers 0) fits (many 0))
  runs-same (suc n) s numbers fits many =
      let rest : RunState → Run = λ m. served_from n tree end limit m (λ k. numbers (suc k)) in
      ap (λ x. run_behind s x rest) (next-same s (numbers 0) fits (many 0))
      ∙ behind-same s (next_cycle tree end limit s) rest (run_from n tree end limit) (λ m fit. runs-same n m (λ k. numbers (suc k)) fit (λ k. many (suc k))) fits refl

pub runs-in-any-order : CycleFits → RunsInAnyOrder
runs-in-any-order fit-on n tree end limit s numbers sound ports fits many = runs-same tree end limit sound ports fit-on n s numbers fits many
