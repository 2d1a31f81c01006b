use Rattle.std.proofs.Common.{◌≡◌, ◌∙◌, Some, List, length, sym, ap, subst, arith}
use Rattle.std.specs.Prelude.{slice_get, slice_set}
use Rattle.std.proofs.lemmas.List.{length-set}
use Rattle.std.proofs.lemmas.Result.{on_ok_weaker, on_err_weaker}
use Rattle.model_leaves.specs.declared.leaves.LeafAt.TheVariants.{Atomic, Cell}
use Rattle.run_model.specs.CellStep.{CellState}
use Rattle.run_model.specs.Cycle.{cell_state}
use Rattle.run_model.specs.Fitting.{Fits, OfLeaf}
use Rattle.cell_table.specs.Saved.{cell_of_saved}
use Rattle.cell_engine.specs.Cells.{Cells}
use Rattle.run_leaves.specs.Seated.{Seated, settings_in, tree_at}
use Rattle.run_leaves.proofs.Places.{read-at, set-same}
use Rattle.run_leaves.proofs.Inside.{store-inside, cell-inside}
use Rattle.run_leaves.proofs.Given.{seen, one-cell, still-placed, still-ports, port-here}
use Rattle.run_leaves.proofs.Putting.{fits-within, fits-no-box, put-has-port, can-be-put, put-layout, put-cells}
use Rattle.run_leaves.proofs.leaves.FlatLeaves.put_cell.Goals as goal

pub at-requires : goal.at-requires
at-requires g c =
    let stock = c.self.inside.stock in
    let stores = c.self.inside.stores.items in
    let seats = c.self.inside.seats in
    let leaf = c.args.leaf in
    let x : CellState = cell_of_saved c.args.state.now in
    let fits : OfLeaf (tree_at c.self.inside.model (settings_in stock)) leaf (λ l. Fits l (cell_state x)) =
    subst (λ (s : Seated). OfLeaf (tree_at s.model s.settings) leaf (λ l. Fits l (cell_state x))) (sym c.self.view_is) c.requires.fits
    in
    fits-within _ seats stores stock c.self.invariant.0 leaf x fits

pub unreachable-requires : goal.unreachable-requires
unreachable-requires g c =
    let stock = c.self.inside.stock in
    let stores = c.self.inside.stores.items in
    let seats = c.self.inside.seats in
    let leaf = c.args.leaf in
    let x : CellState = cell_of_saved c.args.state.now in
    let fits : OfLeaf (tree_at c.self.inside.model (settings_in stock)) leaf (λ l. Fits l (cell_state x)) =
    subst (λ (s : Seated). OfLeaf (tree_at s.model s.settings) leaf (λ l. Fits l (cell_state x))) (sym c.self.view_is) c.requires.fits
    in
    let seat : slice_get seats leaf ≡ Some (Atomic c.in-Atomic.field-0) = c.at.ensures ∙ ap Some c.in-Atomic.is in
    fits-no-box _ seats stores stock c.self.invariant.0 leaf x fits c.in-Atomic.field-0 seat

pub index_mut-requires : goal.index_mut-requires
index_mut-requires g c =
    let stock = c.self.inside.stock in
    let stores = c.self.inside.stores.items in
    let seats = c.self.inside.seats in
    let leaf = c.args.leaf in
    let seat : slice_get seats leaf ≡ Some (Cell c.in-Cell.group c.in-Cell.cell) = c.at.ensures ∙ ap Some c.in-Cell.is in
    let inside = store-inside _ seats stores stock c.self.invariant.0 leaf c.in-Cell.group c.in-Cell.cell seat in
    omega (arith, inside, c.self.inside.stores.ok.0)

pub put-requires-clause-within : goal.put-requires-clause-within
put-requires-clause-within g c =
    let stock = c.self.inside.stock in
    let stores = c.self.inside.stores.items in
    let seats = c.self.inside.seats in
    let leaf = c.args.leaf in
    let seat : slice_get seats leaf ≡ Some (Cell c.in-Cell.group c.in-Cell.cell) = c.at.ensures ∙ ap Some c.in-Cell.is in
    let o : Cells = c.index_mut.result.now in
    let kept : slice_get stores c.in-Cell.group ≡ Some o = read-at stores c.in-Cell.group o (store-inside _ seats stores stock c.self.invariant.0 leaf c.in-Cell.group c.in-Cell.cell seat) c.index_mut.ensures.value in
    let inside = cell-inside _ seats stores stock c.self.invariant.0 leaf c.in-Cell.group c.in-Cell.cell o seat kept in
    inside

pub put-requires-clause-state : goal.put-requires-clause-state
put-requires-clause-state g c =
    let stock = c.self.inside.stock in
    let stores = c.self.inside.stores.items in
    let seats = c.self.inside.seats in
    let leaf = c.args.leaf in
    let x : CellState = cell_of_saved c.args.state.now in
    let fits : OfLeaf (tree_at c.self.inside.model (settings_in stock)) leaf (λ l. Fits l (cell_state x)) =
    subst (λ (s : Seated). OfLeaf (tree_at s.model s.settings) leaf (λ l. Fits l (cell_state x))) (sym c.self.view_is) c.requires.fits
    in
    let seat : slice_get seats leaf ≡ Some (Cell c.in-Cell.group c.in-Cell.cell) = c.at.ensures ∙ ap Some c.in-Cell.is in
    let o : Cells = c.index_mut.result.now in
    let kept : slice_get stores c.in-Cell.group ≡ Some o = read-at stores c.in-Cell.group o (store-inside _ seats stores stock c.self.invariant.0 leaf c.in-Cell.group c.in-Cell.cell seat) c.index_mut.ensures.value in
    let inside = cell-inside _ seats stores stock c.self.invariant.0 leaf c.in-Cell.group c.in-Cell.cell o seat kept in
    can-be-put _ seats stores stock c.self.invariant.0 leaf x fits c.in-Cell.group c.in-Cell.cell seat o kept c.requires.rising

pub invariant_of-self : goal.invariant_of-self
invariant_of-self g c =
    let stock = c.self.inside.stock in
    let stores = c.self.inside.stores.items in
    let seats = c.self.inside.seats in
    let leaf = c.args.leaf in
    let x : CellState = cell_of_saved c.args.state.now in
    let fits : OfLeaf (tree_at c.self.inside.model (settings_in stock)) leaf (λ l. Fits l (cell_state x)) =
    subst (λ (s : Seated). OfLeaf (tree_at s.model s.settings) leaf (λ l. Fits l (cell_state x))) (sym c.self.view_is) c.requires.fits
    in
    let seat : slice_get seats leaf ≡ Some (Cell c.in-Cell.group c.in-Cell.cell) = c.at.ensures ∙ ap Some c.in-Cell.is in
    let o : Cells = c.index_mut.result.now in
    let kept : slice_get stores c.in-Cell.group ≡ Some o = read-at stores c.in-Cell.group o (store-inside _ seats stores stock c.self.invariant.0 leaf c.in-Cell.group c.in-Cell.cell seat) c.index_mut.ensures.value in
    let inside = cell-inside _ seats stores stock c.self.invariant.0 leaf c.in-Cell.group c.in-Cell.cell o seat kept in
    let made : Cells = c.put.new.self in
    let layout : made.layout ≡ o.layout = put-layout _ _ c.put.result o made c.in-Cell.cell x c.put.ensures.ok c.put.ensures.err in
    let had = port-here _ c.self.inside.model seats stores stock c.self.invariant.0 c.self.invariant.1 leaf c.in-Cell.group c.in-Cell.cell o made seat kept layout in
    let is = put-cells _ _ c.put.result o made c.in-Cell.cell x c.put.ensures.ok c.put.ensures.err inside had (put-has-port _ seats stores stock c.self.invariant.0 leaf x fits c.in-Cell.group c.in-Cell.cell seat) in (
      still-placed _ c.self.inside.model seats stores stock c.self.invariant.0 c.self.invariant.1 leaf c.in-Cell.group c.in-Cell.cell o made seat kept layout (ap length is.cells ∙ length-set o.cells c.in-Cell.cell is.cell),
      still-ports _ c.self.inside.model seats stores stock c.self.invariant.0 c.self.invariant.1 leaf c.in-Cell.group c.in-Cell.cell o made seat kept layout is.cell is.cells is.has,
    )

pub returns-clause-ok : goal.returns-clause-ok
returns-clause-ok g c =
    let stock = c.self.inside.stock in
    let stores = c.self.inside.stores.items in
    let seats = c.self.inside.seats in
    let leaf = c.args.leaf in
    let x : CellState = cell_of_saved c.args.state.now in
    let seat : slice_get seats leaf ≡ Some (Cell c.in-Cell.group c.in-Cell.cell) = c.at.ensures ∙ ap Some c.in-Cell.is in
    let o : Cells = c.index_mut.result.now in
    let kept : slice_get stores c.in-Cell.group ≡ Some o = read-at stores c.in-Cell.group o (store-inside _ seats stores stock c.self.invariant.0 leaf c.in-Cell.group c.in-Cell.cell seat) c.index_mut.ensures.value in
    let inside = cell-inside _ seats stores stock c.self.invariant.0 leaf c.in-Cell.group c.in-Cell.cell o seat kept in
    let made : Cells = c.put.new.self in
    let layout : made.layout ≡ o.layout = put-layout _ _ c.put.result o made c.in-Cell.cell x c.put.ensures.ok c.put.ensures.err in
    on_ok_weaker c.put.result
    (λ e. one-cell _ c.self.inside.model seats stores stock c.self.invariant.0 c.self.invariant.1 leaf c.in-Cell.group c.in-Cell.cell o made seat kept layout x (ap (λ (s : Cells). s.cells) e) c.args.self.now c.self.view_is)
    c.put.ensures.ok

pub returns-clause-err : goal.returns-clause-err
returns-clause-err g c =
    let stock = c.self.inside.stock in
    let stores = c.self.inside.stores.items in
    let seats = c.self.inside.seats in
    let leaf = c.args.leaf in
    let x : CellState = cell_of_saved c.args.state.now in
    let seat : slice_get seats leaf ≡ Some (Cell c.in-Cell.group c.in-Cell.cell) = c.at.ensures ∙ ap Some c.in-Cell.is in
    let o : Cells = c.index_mut.result.now in
    let kept : slice_get stores c.in-Cell.group ≡ Some o = read-at stores c.in-Cell.group o (store-inside _ seats stores stock c.self.invariant.0 leaf c.in-Cell.group c.in-Cell.cell seat) c.index_mut.ensures.value in
    let inside = cell-inside _ seats stores stock c.self.invariant.0 leaf c.in-Cell.group c.in-Cell.cell o seat kept in
    let made : Cells = c.put.new.self in
    let layout : made.layout ≡ o.layout = put-layout _ _ c.put.result o made c.in-Cell.cell x c.put.ensures.ok c.put.ensures.err in
    on_err_weaker c.put.result
    (λ e. ap (λ (ss : List Cells). seen c.self.inside.model seats ss stock) (ap (slice_set stores c.in-Cell.group) e ∙ set-same stores c.in-Cell.group o kept) ∙ c.self.view_is)
    c.put.ensures.err
