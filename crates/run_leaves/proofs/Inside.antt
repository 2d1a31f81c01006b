-- What the places of leaves say of boxes and cells.
use Rattle.std.proofs.Common.{◌≡◌, ℕ, zero, suc, true, ◌<◌, Option, Some, None, List, [], ◌∷◌, map, length, sym, ◌∙◌, ap, subst, arith}
use Rattle.std.specs.Prelude.{slice_get, slice_set}
use Rattle.std.specs.List.{All}
use Rattle.std.proofs.lemmas.List.{length-map}
use Rattle.std.proofs.lemmas.List.Elements.{All-set}
use Rattle.cell_grid.specs.Space.{cell_count}
use Rattle.atomic_face.specs.declared.stock.BoxNo.{BoxNo}
use Rattle.atomic_face.specs.StockView.{Stocked}
use Rattle.model_leaves.specs.declared.leaves.LeafAt.{LeafAt}
use Rattle.model_leaves.specs.declared.leaves.LeafAt.TheVariants.{Atomic, Cell}
use Rattle.model_tree.specs.Tree.{Tree}
use Rattle.run_model.specs.CellStep.{CellState}
use Rattle.run_model.specs.Cycle.{LeafState, box_state, cell_state, leaf_next}
use Rattle.cell_engine.specs.Cells.{Cells}
use Rattle.cell_table.specs.Told.{no_cell, cell_at}
use Rattle.cell_engine.specs.Layout.{Layout}
use Rattle.sparse_cycle.specs.Sparse.{leaf_of, no_leaf}
use Rattle.run_leaves.specs.Seated.{is_box, box_there, cell_there, state_there, states_in, settings_in, layouts_in, sizes_in, Places, HasPort, HavePorts}
use Rattle.run_leaves.proofs.Places.{get-map, get-within, index-get, map-kept, get-map-back}

-- a box stands at a place that there is
pub box-within : (f : LeafAt → LeafState) (seats : List LeafAt) (l : ℕ) → is_box (leaf_of (map f seats) l) ≡ true → l < length seats
box-within f [] l e = absurd cc
box-within f (a ∷ rest) zero e = omega arith
box-within f (a ∷ rest) (suc l) e = let on = box-within f rest l e in omega (arith, on)

-- and so does a leaf that waits
pub due-within : (f : LeafAt → LeafState) (seats : List LeafAt) (l t : ℕ) → leaf_next (leaf_of (map f seats) l) ≡ Some t → l < length seats
due-within f [] l t e = absurd cc
due-within f (a ∷ rest) zero t e = omega arith
due-within f (a ∷ rest) (suc l) t e = let on = due-within f rest l t e in omega (arith, on)

-- the state at a place
pub state-at : (f : LeafAt → LeafState) (seats : List LeafAt) (l : ℕ) (a : LeafAt) → slice_get seats l ≡ Some a → leaf_of (map f seats) l ≡ f a
state-at f seats l a at = index-get (map f seats) l (f a) no_leaf (get-map f seats l a at)

-- where a cell stands, there is no box
pub cell-no-box : (stock : List Stocked) (stores : List Cells) (seats : List LeafAt) (l store cell : ℕ) → slice_get seats l ≡ Some (Cell store cell) → is_box (leaf_of (states_in stock stores seats) l) ≡ true → ⊥
cell-no-box stock stores seats l store cell here box =
    no-box (slice_get stores store) (subst (λ (x : LeafState). is_box x ≡ true) (state-at (state_there stock stores) seats l (Cell store cell) here) box)
  where
    no-box : (o : Option Cells) → is_box (cell_there o cell) ≡ true → ⊥
    no-box None e = cc
    no-box (Some s) e = cc

module _ (tree : Tree) (seats : List LeafAt) (stores : List Cells) (stock : List Stocked) (places : Places tree seats (settings_in stock) (layouts_in stores) (sizes_in stores)) where
  pub box-inside : (l : ℕ) (at : BoxNo) → slice_get seats l ≡ Some (Atomic at) → at.0 < length stock
  box-inside l at here =
      let place = places.boxes l at here in
      let long = length-map stock (λ (s : Stocked). s.box.settings) in
      omega (arith, place.inside, long)

  pub box-is : (l : ℕ) (at : BoxNo) (s : Stocked) → slice_get seats l ≡ Some (Atomic at) → slice_get stock at.0 ≡ Some s → leaf_of (states_in stock stores seats) l ≡ box_state s.box
  box-is l at s here stood = state-at (state_there stock stores) seats l (Atomic at) here ∙ ap box_there stood

  pub store-inside : (l store cell : ℕ) → slice_get seats l ≡ Some (Cell store cell) → store < length stores
  store-inside l store cell here =
      let place = places.cells l store cell here in
      let lt = get-within (sizes_in stores) store (cell_count place.group.space) place.size in
      let long = length-map stores (λ (s : Cells). length s.cells) in
      omega (arith, lt, long)

  pub size-is : (l store cell : ℕ) (o : Cells) (here : slice_get seats l ≡ Some (Cell store cell)) → slice_get stores store ≡ Some o → length o.cells ≡ cell_count (places.cells l store cell here).group.space
  size-is l store cell o here kept =
      get-map-back (λ (s : Cells). length s.cells) stores store (cell_count (places.cells l store cell here).group.space) o (places.cells l store cell here).size kept

  pub cell-inside : (l store cell : ℕ) (o : Cells) → slice_get seats l ≡ Some (Cell store cell) → slice_get stores store ≡ Some o → cell < length o.cells
  cell-inside l store cell o here kept =
      let place = places.cells l store cell here in
      let size = size-is l store cell o here kept in
      omega (arith, place.inside, size)

  pub cell-is : (l store cell : ℕ) (o : Cells) → slice_get seats l ≡ Some (Cell store cell) → slice_get stores store ≡ Some o → leaf_of (states_in stock stores seats) l ≡ cell_state (cell_at o.cells cell)
  cell-is l store cell o here kept =
      state-at (state_there stock stores) seats l (Cell store cell) here ∙ ap (λ x. cell_there x cell) kept

  -- places stay where one store is made anew with as many cells
  pub places-kept : (store : ℕ) (o made : Cells) → slice_get stores store ≡ Some o → made.layout ≡ o.layout → length made.cells ≡ length o.cells
      → Places tree seats (settings_in stock) (layouts_in (slice_set stores store made)) (sizes_in (slice_set stores store made))
  places-kept store o made kept layout size =
      subst (λ (ls : List Layout). Places tree seats (settings_in stock) ls (sizes_in (slice_set stores store made)))
      (sym (map-kept (λ (s : Cells). s.layout) stores store o made kept layout))
      (subst (λ (ns : List ℕ). Places tree seats (settings_in stock) (layouts_in stores) ns)
      (sym (map-kept (λ (s : Cells). length s.cells) stores store o made kept size)) places)

-- each cell of a store has a port
pub ports-in : (stores : List Cells) (store : ℕ) (o : Cells) → HavePorts stores → slice_get stores store ≡ Some o → All HasPort o.cells
ports-in stores store o have kept =
    subst (λ (s : Cells). All HasPort s.cells) (index-get stores store o o kept) (have store o (get-within stores store o kept))

pub port-of : (o : Cells) (cell : ℕ) → All HasPort o.cells → cell < length o.cells → HasPort (cell_at o.cells cell)
port-of o cell have lt = have cell no_cell lt

-- and still where one cell with a port is made anew
pub ports-kept : (stores : List Cells) (store cell : ℕ) (x : CellState) (o made : Cells) → HavePorts stores → slice_get stores store ≡ Some o → made.cells ≡ slice_set o.cells cell x → HasPort x
    → HavePorts (slice_set stores store made)
ports-kept stores store cell x o made have kept cells has =
    All-set (λ (s : Cells). All HasPort s.cells) stores store made
    (subst (λ (cs : List CellState). All HasPort cs) (sym cells) (All-set HasPort o.cells cell x has (ports-in stores store o have kept))) have
