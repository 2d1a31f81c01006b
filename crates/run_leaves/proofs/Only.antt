-- A leaf that moves, or stops, leaves the others and what it has emitted.
use Rattle.std.proofs.Common.{◌≡◌, ℕ, Option, Some, None, List, Ok, Err, refl, sym, ◌∙◌, ap}
use Rattle.std.specs.Prelude.{slice_get, slice_set, ℤ}
use Rattle.std.specs.declared.result.Result.{Result}
use Rattle.atomic_face.specs.declared.stock.BoxNo.{BoxNo}
use Rattle.atomic_face.specs.Classes.{Bag, moved_state}
use Rattle.atomic_face.specs.Moves.{with_state}
use Rattle.atomic_face.specs.StockView.{Stocked}
use Rattle.model_leaves.specs.declared.leaves.LeafAt.{LeafAt}
use Rattle.model_leaves.specs.declared.leaves.LeafAt.TheVariants.{Atomic, Cell}
use Rattle.model_tree.specs.Tree.{Tree}
use Rattle.run_model.specs.Cycle.{LeafState, box_state, cell_state, emitted_values}
use Rattle.cell_engine.specs.Cells.{Cells}
use Rattle.cell_table.specs.Told.{cell_at, OnlyCell}
use Rattle.sparse_cycle.specs.Sparse.{leaf_of}
use Rattle.cycle_steps.specs.declared.told.Told.{Told}
use Rattle.run_model.specs.declared.stop.LeafStop.{LeafStop}
use Rattle.run_model.specs.declared.stop.LeafStop.TheVariants.{Rule, Memory}
use Rattle.run_leaves.specs.Seated.{box_there, state_there, states_in, settings_in, layouts_in, sizes_in, Places}
use Rattle.run_leaves.specs.Moving.{GoesTo, MovesBox, OnlyLeaf}
use Rattle.run_leaves.proofs.Places.{get-map, set-same}
use Rattle.run_leaves.proofs.Moved.{box-changed, cell-changed}
use Rattle.run_leaves.proofs.Inside.{box-is, cell-is, cell-inside}

module _ (tree : Tree) (seats : List LeafAt) (stores : List Cells) (stock : List Stocked) (places : Places tree seats (settings_in stock) (layouts_in stores) (sizes_in stores)) (l : ℕ) where
  abbrev old : List LeafState
  old = states_in stock stores seats

  pub only-cell : (store cell : ℕ) (o made : Cells) → slice_get seats l ≡ Some (Cell store cell)
      → slice_get stores store ≡ Some o → OnlyCell cell o.cells made.cells
      → OnlyLeaf l old (states_in stock (slice_set stores store made) seats)
  only-cell store cell o made seat kept only =
      record {
        state = cell_state (cell_at made.cells cell);
        states = cell-changed stock stores seats places.apart store cell (cell_at made.cells cell) o made kept only.others l seat (cell-inside tree seats stores stock places l store cell o seat kept);
        emitted = only.emitted ∙ ap (λ (s : LeafState). emitted_values (Some s)) (sym (cell-is tree seats stores stock places l store cell o seat kept));
      }

  module _ (at : BoxNo) (seat : slice_get seats l ≡ Some (Atomic at)) where
    stays-box : (s : Stocked) (new : List Stocked) → slice_get stock at.0 ≡ Some s → new ≡ stock
        → OnlyLeaf l old (states_in new stores seats)
    stays-box s new stood same =
        record {
          state = box_state s.box;
          states =
              ap (λ x. states_in x stores seats) same
              ∙ sym (set-same old l (box_state s.box) (get-map (state_there stock stores) seats l (Atomic at) seat ∙ ap (λ (o : Option Stocked). Some (box_there o)) stood));
          emitted = ap (λ (x : LeafState). emitted_values (Some x)) (sym (box-is tree seats stores stock places l at s seat stood));
        }

    goes-only : (s : Stocked) (o : Option (List ℤ)) (new : List Stocked) (r : Result Told LeafStop)
        → slice_get stock at.0 ≡ Some s → GoesTo stock new at.0 s o r
        → OnlyLeaf l old (states_in new stores seats)
    goes-only s (Some words) new (Ok told) stood h =
        record {
          state = box_state (with_state s.box words);
          states = ap (λ x. states_in x stores seats) h.stock ∙ box-changed stock stores seats places.apart at s (with_state s.box words) stood l seat;
          emitted = ap (λ (x : LeafState). emitted_values (Some x)) (sym (box-is tree seats stores stock places l at s seat stood));
        }
    goes-only s None new (Ok told) stood h = absurd h
    goes-only s (Some words) new (Err (Rule stop)) stood h = absurd h
    goes-only s None new (Err (Rule stop)) stood h = stays-box s new stood h.1
    goes-only s (Some words) new (Err Memory) stood h = stays-box s new stood h
    goes-only s None new (Err Memory) stood h = stays-box s new stood h

  pub only-box : (at : BoxNo) (t : ℕ) (bag : Bag) (new : List Stocked) (r : Result Told LeafStop)
      → slice_get seats l ≡ Some (Atomic at) → MovesBox t bag at.0 stock new r
      → OnlyLeaf l old (states_in new stores seats)
  only-box at t bag new r seat h =
      let b = h.before.box in
      goes-only at seat h.before (moved_state b.kind b.settings b.state t bag) new r h.stood h.goes
