-- What a change of one cell or of one box makes of all leaves.
use Rattle.std.proofs.Common.{◌≡◌, ◌≢◌, ℕ, ◌<◌, Bool, true, false, true≢false, eqb, eqb-true, eq-eqb, Some, List, length, refl, sym, ◌∙◌, ap}
use Rattle.std.specs.Prelude.{slice_get, slice_set}
use Rattle.std.proofs.lemmas.List.{get_or-set_same, get_or-set_other}
use Rattle.atomic_face.specs.declared.stock.BoxNo.{BoxNo}
use Rattle.atomic_face.specs.Held.{Held}
use Rattle.atomic_face.specs.StockView.{Stocked}
use Rattle.model_leaves.specs.declared.leaves.LeafAt.{LeafAt}
use Rattle.model_leaves.specs.declared.leaves.LeafAt.TheVariants.{Atomic, Cell}
use Rattle.run_model.specs.CellStep.{CellState}
use Rattle.run_model.specs.Cycle.{box_state, cell_state}
use Rattle.cell_engine.specs.Cells.{Cells}
use Rattle.cell_table.specs.Told.{no_cell, cell_at}
use Rattle.run_leaves.specs.Seated.{box_there, cell_there, state_there, states_in, settings_in}
use Rattle.run_leaves.specs.Moving.{with_box}
use Rattle.run_leaves.proofs.Places.{map-set, get-set, get-other, map-kept}

-- no two leaves have one place
abbrev pub AreApart : List LeafAt → Type 0
AreApart seats = (k l : ℕ) (at : LeafAt) → slice_get seats k ≡ Some at → slice_get seats l ≡ Some at → k ≡ l

not-same : (a b : ℕ) → eqb a b ≡ false → a ≢ b
not-same a b ne e = true≢false (sym (eq-eqb a b e) ∙ ne)

module _ (stock : List Stocked) (stores : List Cells) (seats : List LeafAt) (apart : AreApart seats) where
  module _ (store cell : ℕ) (x : CellState) (old made : Cells) (kept : slice_get stores store ≡ Some old) (cells : made.cells ≡ slice_set old.cells cell x) where
    abbrev now : List Cells
    now = slice_set stores store made

    other-cell : (a : LeafAt) → a ≢ Cell store cell → state_there stock now a ≡ state_there stock stores a
    other-cell (Atomic at) not = refl
    other-cell (Cell h d) not = by (eqb h store) refl
      where
        by : (b : Bool) → eqb h store ≡ b → cell_there (slice_get now h) d ≡ cell_there (slice_get stores h) d
        by false ne = ap (λ o. cell_there o d) (get-other stores h store made (not-same h store ne))
        by true eq =
            let same : h ≡ store = eqb-true h store eq in
            let there : slice_get now h ≡ Some made = ap (slice_get now) same ∙ get-set stores store old made kept in
            let was : slice_get stores h ≡ Some old = ap (slice_get stores) same ∙ kept in
            let differ : d ≢ cell = λ e. not (λ i. Cell (same i) (e i)) in
            ap (λ o. cell_there o d) there
            ∙ ap cell_state (ap (λ cs. cell_at cs d) cells ∙ get_or-set_other old.cells cell d x no_cell differ)
            ∙ sym (ap (λ o. cell_there o d) was)

    -- one cell's state changes that of its leaf alone
    pub cell-changed : (l : ℕ) → slice_get seats l ≡ Some (Cell store cell) → cell < length old.cells → states_in stock now seats ≡ slice_set (states_in stock stores seats) l (cell_state x)
    cell-changed l at lt =
        map-set (state_there stock stores) (state_there stock now) seats l (Cell store cell) (cell_state x) at
        (ap (λ o. cell_there o cell) (get-set stores store old made kept) ∙ ap cell_state (ap (λ cs. cell_at cs cell) cells ∙ get_or-set_same old.cells cell x no_cell lt))
        (λ k a there not. other-cell a (λ e. not (apart k l (Cell store cell) (there ∙ ap Some e) at)))

  module _ (at : BoxNo) (s : Stocked) (b : Held) (stood : slice_get stock at.0 ≡ Some s) where
    abbrev made_stock : List Stocked
    made_stock = slice_set stock at.0 (with_box s b)

    other-box : (a : LeafAt) → a ≢ Atomic at → state_there made_stock stores a ≡ state_there stock stores a
    other-box (Atomic d) not = ap box_there (get-other stock d.0 at.0 (with_box s b) (λ e. not (λ i. Atomic (record { 0 = e i }))))
    other-box (Cell h d) not = refl

    -- one box's state changes that of its leaf alone
    pub box-changed : (l : ℕ) → slice_get seats l ≡ Some (Atomic at) → states_in made_stock stores seats ≡ slice_set (states_in stock stores seats) l (box_state b)
    box-changed l here =
        map-set (state_there stock stores) (state_there made_stock stores) seats l (Atomic at) (box_state b) here
        (ap box_there (get-set stock at.0 s (with_box s b) stood))
        (λ k a there not. other-box a (λ e. not (apart k l (Atomic at) (there ∙ ap Some e) here)))

    pub settings-kept : b.settings ≡ s.box.settings → settings_in made_stock ≡ settings_in stock
    settings-kept same = map-kept (λ (x : Stocked). x.box.settings) stock at.0 s (with_box s b) stood same
