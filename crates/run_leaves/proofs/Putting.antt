-- A cell or a box is given another state.
use Rattle.std.proofs.Common.{◌≡◌, ◌∙◌, ℕ, zero, suc, ◌+◌, ◌<◌, Option, Some, List, [], ◌∷◌, length, Ok, Err, sym, ap, subst, arith}
use Rattle.std.specs.Prelude.{slice_get, slice_set, IsSomeAnd, OnOk, OnErr, ℤ}
use Rattle.std.specs.declared.result.Result.{Result}
use Rattle.atomic_face.specs.declared.stock.BoxNo.{BoxNo}
use Rattle.atomic_face.specs.declared.params.RestoreRefusal.{RestoreRefusal}
use Rattle.atomic_face.specs.declared.params.RestoreRefusal.TheVariants.{BadState, Memory}
use Rattle.atomic_face.specs.Held.{Held}
use Rattle.atomic_face.specs.BoxCalls.{RestoreGives}
use Rattle.atomic_face.specs.StockView.{Stocked}
use Rattle.atomic_face.specs.Stocked.{ChangesBox}
use Rattle.model_leaves.specs.declared.table.Model.{Model}
use Rattle.model_leaves.specs.declared.leaves.LeafAt.{LeafAt}
use Rattle.model_leaves.specs.declared.leaves.LeafAt.TheVariants.{Atomic, Cell}
use Rattle.model_tree.specs.Tree.{Tree, Leaf, atomic_leaf, cell_leaf, leaves}
use Rattle.model_leaves.proofs.Read.{leaves-length}
use Rattle.run_model.specs.CellStep.{CellState}
use Rattle.run_model.specs.Cycle.{box_state, cell_state}
use Rattle.run_model.specs.Waiting.{CellWaitsFrom}
use Rattle.run_model.specs.Fitting.{Fits, HasNumbers, OfLeaf}
use Rattle.cell_engine.specs.Cells.{Cells, with_cell_state, CanBePut}
use Rattle.cell_engine.specs.Layout.{Layout}
use Rattle.cell_table.specs.Told.{no_cell, cell_at}
use Rattle.sparse_cycle.specs.Sparse.{leaf_of}
use Rattle.run_leaves.specs.Seated.{Seated, states_in, settings_in, layouts_in, sizes_in, Places, HasPort}
use Rattle.run_leaves.specs.Moving.{with_seated_state, with_box}
use Rattle.run_leaves.proofs.Places.{within-get, get-map-back, map-kept, set-same}
use Rattle.run_leaves.proofs.Inside.{box-is}
use Rattle.run_leaves.proofs.Moved.{box-changed}
use Rattle.run_leaves.proofs.Given.{seen}

-- ---- a cell

-- a leaf of which something holds is there
pub of-within : (ls : List Leaf) (l : ℕ) (P : Leaf → Type 0) → IsSomeAnd (slice_get ls l) P → l < length ls
of-within [] l P h = absurd h
of-within (a ∷ ls) zero P h = omega arith
of-within (a ∷ ls) (suc l) P h = let on = of-within ls l P h in omega (arith, on)

of-some : (o : Option Leaf) (a : Leaf) (P : Leaf → Type 0) → IsSomeAnd o P → o ≡ Some a → P a
of-some o a P h is = subst (λ (x : Option Leaf). IsSomeAnd x P) is h

module _ (tree : Tree) (seats : List LeafAt) (stores : List Cells) (stock : List Stocked) (places : Places tree seats (settings_in stock) (layouts_in stores) (sizes_in stores))
    (l : ℕ) (x : CellState) (fits : OfLeaf tree l (λ a. Fits a (cell_state x))) where
  -- there is such a leaf
  pub fits-within : l < length seats
  fits-within =
      let lt = of-within (leaves tree) l (λ a. Fits a (cell_state x)) fits in
      let long = leaves-length tree 0 in
      omega (arith, lt, long, places.long)

  -- and it is no box
  pub fits-no-box : (at : BoxNo) → slice_get seats l ≡ Some (Atomic at) → ⊥
  fits-no-box at seat =
      let place = places.boxes l at seat in
      of-some (slice_get (leaves tree) l) (atomic_leaf place.name place.class place.words) (λ a. Fits a (cell_state x)) fits place.leaf

  module _ (store cell : ℕ) (seat : slice_get seats l ≡ Some (Cell store cell)) where
    numbers : HasNumbers (suc (length (places.cells l store cell seat).group.port_values)) (length (places.cells l store cell seat).group.variable_values) x
    numbers =
        let place = places.cells l store cell seat in
        of-some (slice_get (leaves tree) l) (cell_leaf place.group place.first cell) (λ a. Fits a (cell_state x)) fits place.leaf

    pub put-has-port : HasPort x
    put-has-port = omega (arith, numbers.0)

    pub can-be-put : (o : Cells) → slice_get stores store ≡ Some o → CellWaitsFrom 0 x → CanBePut o.layout x
    can-be-put o kept rising =
        let place = places.cells l store cell seat in
        let same : o.layout ≡ place.layout = get-map-back (λ (s : Cells). s.layout) stores store place.layout o place.kept kept in
        let ports : length x.ports ≡ place.layout.ports + 1 = omega (arith, numbers.0, place.stands.ports) in
        let variables : length x.variables ≡ place.layout.variables = numbers.1 ∙ sym place.stands.variables in
        subst (λ (y : Layout). CanBePut y x) (sym same) (record { ports = ports; variables = variables; rising = rising })

-- ---- what a store makes of it

-- what it keeps stays
pub put-layout : (U E : Type 0) (r : Result U E) (o made : Cells) (i : ℕ) (x : CellState) → OnOk r (made ≡ with_cell_state o i x) → OnErr r (made ≡ o) → made.layout ≡ o.layout
put-layout U E (Ok u) o made i x ok err = ap (λ (s : Cells). s.layout) ok
put-layout U E (Err e) o made i x ok err = ap (λ (s : Cells). s.layout) err

-- the cell that stands at the place then
pub record IsPut (o made : Cells) (i : ℕ) : Type 0 where
  pub cell : CellState
  pub cells : made.cells ≡ slice_set o.cells i cell
  pub has : HasPort cell

pub put-cells : (U E : Type 0) (r : Result U E) (o made : Cells) (i : ℕ) (x : CellState) → OnOk r (made ≡ with_cell_state o i x) → OnErr r (made ≡ o)
    → i < length o.cells → HasPort (cell_at o.cells i) → HasPort x → IsPut o made i
put-cells U E (Ok u) o made i x ok err lt had has = record { cell = x; cells = ap (λ (s : Cells). s.cells) ok; has = has }
put-cells U E (Err e) o made i x ok err lt had has =
    record {
      cell = cell_at o.cells i;
      cells = ap (λ (s : Cells). s.cells) err ∙ sym (set-same o.cells i (cell_at o.cells i) (within-get o.cells i no_cell lt));
      has = had;
    }

-- ---- a box

restored-settings : (U : Type 0) (words : List ℤ) (b c : Held) (r : Result U RestoreRefusal) → RestoreGives words b c r → c.settings ≡ b.settings
restored-settings U words b c (Ok u) h = ap (λ (x : Held). x.settings) h.1
restored-settings U words b c (Err BadState) h = ap (λ (x : Held). x.settings) h.1
restored-settings U words b c (Err Memory) h = ap (λ (x : Held). x.settings) h

-- no box changes its settings
pub put-settings : (U : Type 0) (words : List ℤ) (r : Result U RestoreRefusal) (at : ℕ) (old new : List Stocked) → ChangesBox (λ b c. RestoreGives words b c r) at old new → settings_in new ≡ settings_in old
put-settings U words r at old new h =
    ap settings_in h.list
    ∙ map-kept (λ (x : Stocked). x.box.settings) old at h.before (with_box h.before h.after) h.stood (restored-settings U words h.before.box h.after r h.made)

same-box : (b c : Held) → box_state b ≡ box_state c → b ≡ c
same-box b c e = cc

-- the leaf of the box has its state
pub put-box : (U : Type 0) (words : List ℤ) (r : Result U RestoreRefusal) (tree : Tree) (m : Model) (seats : List LeafAt) (stores : List Cells) (old new : List Stocked)
    → (places : Places tree seats (settings_in old) (layouts_in stores) (sizes_in stores)) (l : ℕ) (at : BoxNo) → slice_get seats l ≡ Some (Atomic at)
    → ChangesBox (λ b c. RestoreGives words b c r) at.0 old new → (s : Seated) → seen m seats stores old ≡ s
    → (b : Held) → leaf_of s.states l ≡ box_state b → (c : Held) × RestoreGives words b c r × (seen m seats stores new ≡ with_seated_state s l (box_state c))
put-box U words r tree m seats stores old new places l at seat h s is b stands =
    let was : leaf_of (states_in old stores seats) l ≡ box_state h.before.box = box-is tree seats stores old places l at h.before seat h.stood in
    let now : leaf_of (states_in old stores seats) l ≡ box_state b = ap (λ (x : Seated). leaf_of x.states l) is ∙ stands in
    let same : h.before.box ≡ b = same-box h.before.box b (sym was ∙ now) in
    let settings = put-settings U words r at.0 old new h in
    let states : states_in new stores seats ≡ slice_set (states_in old stores seats) l (box_state h.after) =
    ap (λ x. states_in x stores seats) h.list ∙ box-changed old stores seats places.apart at h.before h.after h.stood l seat
    in (
      h.after,
      subst (λ (x : Held). RestoreGives words x h.after r) same h.made,
      (λ i. record { model = m; seats = seats; layouts = layouts_in stores; settings = settings i; states = states i })
          ∙ ap (λ (x : Seated). with_seated_state x l (box_state h.after)) is,
    )
