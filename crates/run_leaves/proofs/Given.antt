-- What all leaves become where one cell gives or moves.
use Rattle.std.proofs.Common.{◌≡◌, ℕ, Some, List, length, sym, ◌∙◌, ap}
use Rattle.std.specs.Prelude.{slice_get, slice_set}
use Rattle.std.proofs.lemmas.List.{length-map}
use Rattle.atomic_face.specs.StockView.{Stocked}
use Rattle.model_leaves.specs.declared.table.Model.{Model}
use Rattle.model_leaves.specs.declared.leaves.LeafAt.{LeafAt}
use Rattle.model_leaves.specs.declared.leaves.LeafAt.TheVariants.{Cell}
use Rattle.model_tree.specs.Tree.{Tree}
use Rattle.run_model.specs.CellStep.{CellState}
use Rattle.run_model.specs.Cycle.{cell_state}
use Rattle.cell_engine.specs.Cells.{Cells}
use Rattle.cell_table.specs.Told.{cell_at}
use Rattle.run_leaves.specs.Seated.{Seated, states_in, settings_in, layouts_in, sizes_in, Places, HavePorts, HasPort}
use Rattle.run_leaves.specs.Moving.{with_seated_state, StaysAs}
use Rattle.run_leaves.proofs.Places.{map-kept}
use Rattle.run_leaves.proofs.Inside.{cell-inside, places-kept, ports-in, port-of, ports-kept}
use Rattle.run_leaves.proofs.Moved.{cell-changed}

-- the leaves as they are seen
abbrev pub seen : Model → List LeafAt → List Cells → List Stocked → Seated
seen m seats stores stock =
    record { model = m; seats = seats; layouts = layouts_in stores; settings = settings_in stock; states = states_in stock stores seats }

module _ (tree : Tree) (m : Model) (seats : List LeafAt) (stores : List Cells) (stock : List Stocked) (places : Places tree seats (settings_in stock) (layouts_in stores) (sizes_in stores)) (have : HavePorts stores)
    (l store cell : ℕ) (o made : Cells) (seat : slice_get seats l ≡ Some (Cell store cell)) (kept : slice_get stores store ≡ Some o) (layout : made.layout ≡ o.layout) where
  abbrev now : List Cells
  now = slice_set stores store made

  layouts-kept : layouts_in now ≡ layouts_in stores
  layouts-kept = map-kept (λ (s : Cells). s.layout) stores store o made kept layout

  -- only states may change
  pub stays : (s : Seated) → seen m seats stores stock ≡ s → StaysAs s (seen m seats now stock)
  stays s is =
      record {
        model = ap (λ (x : Seated). x.model) is;
        seats = ap (λ (x : Seated). x.seats) is;
        layouts = layouts-kept ∙ ap (λ (x : Seated). x.layouts) is;
        settings = ap (λ (x : Seated). x.settings) is;
        long = length-map seats _ ∙ sym (length-map seats _) ∙ ap (λ (x : Seated). length x.states) is;
      }

  module _ (x : CellState) (cells : made.cells ≡ slice_set o.cells cell x) where
    -- one leaf has another state
    pub one-cell : (s : Seated) → seen m seats stores stock ≡ s → seen m seats now stock ≡ with_seated_state s l (cell_state x)
    one-cell s is =
        (λ i. record {
          model = m;
          seats = seats;
          layouts = layouts-kept i;
          settings = settings_in stock;
          states = cell-changed stock stores seats places.apart store cell x o made kept cells l seat (cell-inside tree seats stores stock places l store cell o seat kept) i;
        })
        ∙ ap (λ (y : Seated). with_seated_state y l (cell_state x)) is

  -- the places stay, and each cell has a port
  pub still-placed : length made.cells ≡ length o.cells → Places tree seats (settings_in stock) (layouts_in now) (sizes_in now)
  still-placed size = places-kept tree seats stores stock places store o made kept layout size

  pub still-ports : (x : CellState) → made.cells ≡ slice_set o.cells cell x → HasPort x → HavePorts now
  still-ports x cells has = ports-kept stores store cell x o made have kept cells has

  -- the cell of the place has a port
  pub port-here : HasPort (cell_at o.cells cell)
  port-here = port-of o cell (ports-in stores store o have kept) (cell-inside tree seats stores stock places l store cell o seat kept)
