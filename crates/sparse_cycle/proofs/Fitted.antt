-- A leaf that gives or moves still fits.
use Rattle.std.proofs.Common.{◌≡◌, ℕ, zero, suc, Bool, Option, Some, None, List, [], ◌∷◌, length, set, refl, sym, subst}
use Rattle.std.specs.Prelude.{slice_get, Ok, Err, IfOk, ℤ}
use Rattle.std.specs.List.{AllZip}
use Rattle.atomic_face.specs.Classes.{Bag, moved_state}
use Rattle.model_tree.specs.Tree.{Leaf, atomic_leaf, cell_leaf, leaves}
use Rattle.run_model.specs.CellStep.{Stepped, cell_moved}
use Rattle.run_model.specs.Cycle.{LeafState, box_state, cell_state, leaf_emitted, sight_of, box_moved, cell_result, after}
use Rattle.run_model.specs.Fitting.{Fits, HasNumbers, CellsKeepNumbers}
use Rattle.sparse_cycle.specs.Sparse.{leaf_of, is_woken_at, bag_in, moved_from, move_to, move_at}
use Rattle.sparse_cycle.specs.Fits.{EmissionFits, MoveFits}

-- one leaf changes to a state that fits where the old one did
set-fits : (ls : List Leaf) (ss : List LeafState) (l : ℕ) (x : LeafState) → ((leaf : Leaf) → slice_get ls l ≡ Some leaf → Fits leaf (leaf_of ss l) → Fits leaf x) → AllZip Fits ls ss → AllZip Fits ls (set ss l x)
set-fits [] [] l x keeps h = h
set-fits [] (s ∷ ss) l x keeps h = absurd h
set-fits (a ∷ ls) [] l x keeps h = absurd h
set-fits (a ∷ ls) (s ∷ ss) zero x keeps h = (keeps a refl h.0, h.1)
set-fits (a ∷ ls) (s ∷ ss) (suc l) x keeps h = (h.0, set-fits ls ss l x keeps h.1)

module _ (keeps : CellsKeepNumbers) where
  emitted-fits : (t : ℕ) (l : Leaf) (s : LeafState) → Fits l s → Fits l (leaf_emitted t s)
  emitted-fits t (atomic_leaf name class settings) (box_state b) h = h
  emitted-fits t (atomic_leaf name class settings) (cell_state c) h = absurd h
  emitted-fits t (cell_leaf g first cell) (box_state b) h = absurd h
  emitted-fits t (cell_leaf g first cell) (cell_state c) h = keeps.emission (suc (length g.port_values)) (length g.variable_values) t c h

  moved-fits : (t : ℕ) (em : List LeafState) (woken : Bool) (bag : Bag) (l : Leaf) (s : LeafState) → Fits l s → Fits l (after s (moved_from t em woken bag l s))
  moved-fits t em woken bag (atomic_leaf name class settings) (box_state b) h = boxed (moved_state b.kind b.settings b.state t bag)
    where
      boxed : (o : Option (List ℤ)) → Fits (atomic_leaf name class settings) (after (box_state b) (box_moved b o))
      boxed None = h
      boxed (Some s) = h
  moved-fits t em woken bag (atomic_leaf name class settings) (cell_state c) h = absurd h
  moved-fits t em woken bag (cell_leaf g first cell) (box_state b) h = absurd h
  moved-fits t em woken bag (cell_leaf g first cell) (cell_state c) h =
      stepped (cell_moved g cell t woken (sight_of t em g first cell) bag c)
      (keeps.move (suc (length g.port_values)) (length g.variable_values) g cell t woken (sight_of t em g first cell) bag c h)
    where
      stepped : (r : Stepped) → IfOk r (HasNumbers (suc (length g.port_values)) (length g.variable_values)) → Fits (cell_leaf g first cell) (after (cell_state c) (cell_result r))
      stepped (Ok d) k = k
      stepped (Err why) k = h

pub emission-fits : CellsKeepNumbers → EmissionFits
emission-fits keeps tree t l states h =
    set-fits (leaves tree) states l (leaf_emitted t (leaf_of states l)) (λ leaf found k. emitted-fits keeps t leaf (leaf_of states l) k) h

pub move-fits : CellsKeepNumbers → MoveFits
move-fits keeps tree t l states given fed h =
    let woken = is_woken_at given (slice_get (leaves tree) l) in
    let bag = bag_in fed l in
    set-fits (leaves tree) states l (after (leaf_of states l) (move_at tree t states given fed l))
    (λ leaf found k. subst (λ o. Fits leaf (after (leaf_of states l) (move_to t states woken bag o (leaf_of states l)))) (sym found) (moved-fits keeps t states woken bag leaf (leaf_of states l) k)) h
