-- What all leaves become where a box or a cell moves.
use Rattle.std.proofs.Common.{◌≡◌, ℕ, ◌+◌, Bool, Option, Some, None, List, Ok, Err, refl, sym, ◌∙◌, ap, subst, arith}
use Rattle.std.specs.Prelude.{slice_get, slice_set, ℤ}
use Rattle.std.specs.declared.result.Result.{Result}
use Rattle.atomic_face.specs.declared.stock.BoxNo.{BoxNo}
use Rattle.atomic_face.specs.Classes.{Bag, moved_state}
use Rattle.atomic_face.specs.Moves.{with_state}
use Rattle.atomic_face.specs.StockView.{Stocked}
use Rattle.model_leaves.specs.declared.leaves.LeafAt.{LeafAt}
use Rattle.model_leaves.specs.declared.leaves.LeafAt.TheVariants.{Atomic, Cell}
use Rattle.model_tree.specs.Tree.{Tree, leaves}
use Rattle.run_model.specs.CellStep.{Stepped, cell_moved}
use Rattle.run_model.specs.Cycle.{Moved, box_moved, cell_result}
use Rattle.cell_engine.specs.Cells.{Cells, computed_at}
use Rattle.cell_table.specs.Told.{cell_at}
use Rattle.cell_engine.specs.Laws.{SeesItsGroup, StandAt}
use Rattle.sparse_cycle.specs.Sparse.{leaf_of, move_to}
use Rattle.cycle_steps.specs.Moving.{Moves}
use Rattle.cycle_steps.specs.declared.told.Told.{Told}
use Rattle.run_model.specs.declared.stop.LeafStop.{LeafStop}
use Rattle.run_model.specs.declared.stop.LeafStop.TheVariants.{Rule, Memory}
use Rattle.run_leaves.specs.Seated.{cell_there, state_there, states_in, settings_in, layouts_in, sizes_in, Places}
use Rattle.run_leaves.specs.Moving.{GoesTo, MovesBox, MovesCell, with_box}
use Rattle.run_leaves.proofs.Places.{get-map, map-kept}
use Rattle.run_leaves.proofs.Moved.{AreApart, box-changed, cell-changed}
use Rattle.run_leaves.proofs.Inside.{box-is, cell-is, size-is, cell-inside}

-- ---- a box

goes-settings : (old new : List Stocked) (at : ℕ) (s : Stocked) (o : Option (List ℤ)) (r : Result Told LeafStop) → slice_get old at ≡ Some s → GoesTo old new at s o r → settings_in new ≡ settings_in old
goes-settings old new at s (Some words) (Ok told) stood h =
    ap settings_in h.stock ∙ map-kept (λ (x : Stocked). x.box.settings) old at s (with_box s (with_state s.box words)) stood refl
goes-settings old new at s None (Ok told) stood h = absurd h
goes-settings old new at s (Some words) (Err (Rule stop)) stood h = absurd h
goes-settings old new at s None (Err (Rule stop)) stood h = ap settings_in h.1
goes-settings old new at s (Some words) (Err Memory) stood h = ap settings_in h
goes-settings old new at s None (Err Memory) stood h = ap settings_in h

-- no box changes its settings
pub box-settings : (t : ℕ) (bag : Bag) (at : ℕ) (old new : List Stocked) (r : Result Told LeafStop) → MovesBox t bag at old new r → settings_in new ≡ settings_in old
box-settings t bag at old new r h =
    goes-settings old new at h.before (moved_state h.before.box.kind h.before.box.settings h.before.box.state t bag) r h.stood h.goes

goes-moves : (stores : List Cells) (seats : List LeafAt) (apart : AreApart seats) (l : ℕ) (old new : List Stocked) (at : BoxNo) (s : Stocked) (o : Option (List ℤ)) (r : Result Told LeafStop)
    → slice_get seats l ≡ Some (Atomic at) → slice_get old at.0 ≡ Some s → GoesTo old new at.0 s o r → Moves (states_in old stores seats) (states_in new stores seats) l (box_moved s.box o) r
goes-moves stores seats apart l old new at s (Some words) (Ok told) seat stood h =
    record {
      states_are = ap (λ x. states_in x stores seats) h.stock ∙ box-changed old stores seats apart at s (with_state s.box words) stood l seat;
      value_is = h.value;
      next_is = h.next;
    }
goes-moves stores seats apart l old new at s None (Ok told) seat stood h = absurd h
goes-moves stores seats apart l old new at s (Some words) (Err (Rule stop)) seat stood h = absurd h
goes-moves stores seats apart l old new at s None (Err (Rule stop)) seat stood h = h.0
goes-moves stores seats apart l old new at s (Some words) (Err Memory) seat stood h = tt
goes-moves stores seats apart l old new at s None (Err Memory) seat stood h = tt

module _ (tree : Tree) (seats : List LeafAt) (stores : List Cells) (stock : List Stocked) (places : Places tree seats (settings_in stock) (layouts_in stores) (sizes_in stores)) (l : ℕ) where
  -- a box moves as the reference has it
  pub box-moves-all : (t : ℕ) (woken : Bool) (bag : Bag) (at : BoxNo) (new : List Stocked) (r : Result Told LeafStop) → slice_get seats l ≡ Some (Atomic at) → MovesBox t bag at.0 stock new r
      → Moves (states_in stock stores seats) (states_in new stores seats) l (move_to t (states_in stock stores seats) woken bag (slice_get (leaves tree) l) (leaf_of (states_in stock stores seats) l)) r
  box-moves-all t woken bag at new r seat h =
      let place = places.boxes l at seat in
      let b = h.before.box in
      let is = box-is tree seats stores stock places l at h.before seat h.stood in
      subst (λ (m : Moved). Moves (states_in stock stores seats) (states_in new stores seats) l m r)
      (sym (λ i. move_to t (states_in stock stores seats) woken bag (place.leaf i) (is i)))
      (goes-moves stores seats places.apart l stock new at h.before (moved_state b.kind b.settings b.state t bag) r seat h.stood h.goes)

  -- ---- a cell

  module _ (store cell : ℕ) (o made : Cells) (seat : slice_get seats l ≡ Some (Cell store cell)) (kept : slice_get stores store ≡ Some o) where
    abbrev now : List Cells
    now = slice_set stores store made

    steps-move : (s : Stepped) (r : Result Told LeafStop) → MovesCell o.cells made.cells cell s r → Moves (states_in stock stores seats) (states_in stock now seats) l (cell_result s) r
    steps-move (Ok c) (Ok told) h =
        record {
          states_are = cell-changed stock stores seats places.apart store cell c o made kept h.cells l seat (cell-inside tree seats stores stock places l store cell o seat kept);
          value_is = h.value;
          next_is = h.next;
        }
    steps-move (Ok c) (Err (Rule stop)) h = absurd h
    steps-move (Ok c) (Err Memory) h = tt
    steps-move (Err why) (Ok told) h = absurd h
    steps-move (Err why) (Err (Rule stop)) h = h
    steps-move (Err why) (Err Memory) h = tt

    -- its group's cells stand among all leaves
    stand-at : StandAt (places.cells l store cell seat).first o.cells (states_in stock stores seats)
    stand-at k lt =
        let place = places.cells l store cell seat in
        let size = size-is tree seats stores stock places l store cell o seat kept in
        let there = place.others k (omega (arith, lt, size)) in
        get-map (state_there stock stores) seats (place.first + k) (Cell store k) there
        ∙ ap (λ (x : Option Cells). Some (cell_there x k)) kept

    -- a cell moves as the reference has it
    pub cell-moves-all : SeesItsGroup → (t : ℕ) (woken : Bool) (bag : Bag) (r : Result Told LeafStop)
        → MovesCell o.cells made.cells cell (computed_at t (places.cells l store cell seat).group o.cells cell woken bag) r
        → Moves (states_in stock stores seats) (states_in stock now seats) l (move_to t (states_in stock stores seats) woken bag (slice_get (leaves tree) l) (leaf_of (states_in stock stores seats) l)) r
    cell-moves-all sees t woken bag r h =
        let place = places.cells l store cell seat in
        let is = cell-is tree seats stores stock places l store cell o seat kept in
        let size = size-is tree seats stores stock places l store cell o seat kept in
        let sight = sees t place.group place.first cell o.cells (states_in stock stores seats) size (cell-inside tree seats stores stock places l store cell o seat kept) stand-at in
        subst (λ (m : Moved). Moves (states_in stock stores seats) (states_in stock now seats) l m r)
        (sym ((λ i. move_to t (states_in stock stores seats) woken bag (place.leaf i) (is i)) ∙ ap (λ v. cell_result (cell_moved place.group cell t woken v bag (cell_at o.cells cell))) sight))
        (steps-move (computed_at t place.group o.cells cell woken bag) r h)
