-- What a cycle costs, by its values and its touched leaves.
use Rattle.std.proofs.Common.{◌≡◌, ℕ, suc, ◌+◌, Bool, true, false, cond, Some, None, List, [], ◌∷◌, length, refl, arith}
use Rattle.std.specs.Prelude.{not}
use Rattle.std.specs.List.{filter}
use Rattle.model_tree.specs.Tree.{Tree}
use Rattle.run_model.specs.Run.{PortRecord, RunState, is_of_out, next_instant}
use Rattle.run_model.specs.Visits.{cost, cycle_visits}
use Rattle.run_model.specs.Fitting.{FitsTree}
use Rattle.sparse_cycle.specs.Sparse.{cycle_parts, first_stop_among, cycle_of_parts}
use Rattle.sparse_cycle.specs.Walk.{EachMoves}

parted-step : (b : Bool) (r : PortRecord) (xs ys : List PortRecord) (n : ℕ) → length xs + length ys ≡ n → length (cond b (r ∷ xs) xs) + length (cond (not b) (r ∷ ys) ys) ≡ suc n
parted-step true r xs ys n e = omega (arith, e)
parted-step false r xs ys n e = omega (arith, e)

-- the Y and the N records are all that were given
pub parted : (given : List PortRecord) → length (filter is_of_out given) + length (filter (λ (r : PortRecord). not (is_of_out r)) given) ≡ length given
parted [] = refl
parted (r ∷ rs) =
    parted-step (is_of_out r) r (filter is_of_out rs) (filter (λ (r : PortRecord). not (is_of_out r)) rs) (length rs) (parted rs)

-- where no leaf stops
pub cycle-costs : EachMoves → (tree : Tree) (t : ℕ) (s : RunState) → FitsTree tree s.leaf_states → next_instant s ≡ Some t
    → first_stop_among (cycle_parts tree t s).move (cycle_parts tree t s).touched ≡ None
    → cycle_visits tree (cycle_of_parts t (cycle_parts tree t s)) ≡ cost tree (length (cycle_parts tree t s).given) (length (cycle_parts tree t s).touched)
cycle-costs each tree t s fits next none =
    let given = parted (cycle_parts tree t s).given in
    let moves = each tree t s fits next none in
    λ i. cost tree (given i) (moves i)
