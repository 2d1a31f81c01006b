use Rattle.std.proofs.Common.{◌≡◌, ◌∙◌, ◌<◌, true, Some, List, length, sym, ap, subst, arith}
use Rattle.std.specs.Prelude.{slice_get}
use Rattle.std.proofs.lemmas.List.{length-map}
use Rattle.std.proofs.lemmas.Result.{IfOk-weaker}
use Rattle.std.proofs.lemmas.Bool.{false≢true}
use Rattle.model_leaves.specs.declared.leaves.LeafAt.TheVariants.{Atomic, Cell}
use Rattle.run_model.specs.Cycle.{LeafState, cell_state}
use Rattle.cell_table.specs.declared.state.CellState as saved
use Rattle.cell_table.specs.Saved.{cell_of_saved}
use Rattle.cell_table.specs.Told.{cell_at}
use Rattle.cell_engine.specs.Cells.{Cells}
use Rattle.sparse_cycle.specs.Sparse.{leaf_of}
use Rattle.run_leaves.specs.Seated.{Seated, state_there, states_in}
use Rattle.run_leaves.specs.Saved.{is_cell_state}
use Rattle.run_leaves.proofs.Places.{read-at, found-at}
use Rattle.run_leaves.proofs.Inside.{box-inside, box-is, store-inside, cell-inside, cell-is}
use Rattle.run_leaves.proofs.leaves.FlatLeaves.save_cell.Goals as goal

pub unreachable-requires : goal.unreachable-requires
unreachable-requires g c =
    let stock = c.self.inside.stock in
    let stores = c.self.inside.stores.items in
    let seats = c.self.inside.seats in
    let leaf = c.args.leaf in
    let states : states_in stock stores seats ≡ c.args.self.now.states = ap (λ (s : Seated). s.states) c.self.view_is in
    let seat : slice_get seats leaf ≡ Some (Atomic c.in-Atomic.field-0) = c.at.ensures ∙ ap Some c.in-Atomic.is in
    let there = found-at stock c.in-Atomic.field-0.0 (box-inside _ seats stores stock c.self.invariant.0 leaf c.in-Atomic.field-0 seat) in
    let is = box-is _ seats stores stock c.self.invariant.0 leaf c.in-Atomic.field-0 there.0 seat there.1 in
    false≢true (subst (λ (x : LeafState). is_cell_state x ≡ true) (sym (ap (λ (ss : List LeafState). leaf_of ss leaf) states) ∙ is) c.requires.cell)

pub index-requires : goal.index-requires
index-requires g c =
    let stock = c.self.inside.stock in
    let stores = c.self.inside.stores.items in
    let seats = c.self.inside.seats in
    let leaf = c.args.leaf in
    let seat : slice_get seats leaf ≡ Some (Cell c.in-Cell.group c.in-Cell.cell) = c.at.ensures ∙ ap Some c.in-Cell.is in
    let inside = store-inside _ seats stores stock c.self.invariant.0 leaf c.in-Cell.group c.in-Cell.cell seat in
    omega (arith, inside, c.self.inside.stores.ok.0)

pub state-requires : goal.state-requires
state-requires g c =
    let stock = c.self.inside.stock in
    let stores = c.self.inside.stores.items in
    let seats = c.self.inside.seats in
    let leaf = c.args.leaf in
    let seat : slice_get seats leaf ≡ Some (Cell c.in-Cell.group c.in-Cell.cell) = c.at.ensures ∙ ap Some c.in-Cell.is in
    let o : Cells = c.index.result.now in
    let kept : slice_get stores c.in-Cell.group ≡ Some o = read-at stores c.in-Cell.group o (store-inside _ seats stores stock c.self.invariant.0 leaf c.in-Cell.group c.in-Cell.cell seat) c.index.ensures in
    cell-inside _ seats stores stock c.self.invariant.0 leaf c.in-Cell.group c.in-Cell.cell o seat kept

pub returns-clause-state : goal.returns-clause-state
returns-clause-state g c =
    let stock = c.self.inside.stock in
    let stores = c.self.inside.stores.items in
    let seats = c.self.inside.seats in
    let leaf = c.args.leaf in
    let states : states_in stock stores seats ≡ c.args.self.now.states = ap (λ (s : Seated). s.states) c.self.view_is in
    let seat : slice_get seats leaf ≡ Some (Cell c.in-Cell.group c.in-Cell.cell) = c.at.ensures ∙ ap Some c.in-Cell.is in
    let o : Cells = c.index.result.now in
    let kept : slice_get stores c.in-Cell.group ≡ Some o = read-at stores c.in-Cell.group o (store-inside _ seats stores stock c.self.invariant.0 leaf c.in-Cell.group c.in-Cell.cell seat) c.index.ensures in
    let is : leaf_of c.args.self.now.states leaf ≡ cell_state (cell_at o.cells c.in-Cell.cell) =
    sym (ap (λ (ss : List LeafState). leaf_of ss leaf) states) ∙ cell-is _ seats stores stock c.self.invariant.0 leaf c.in-Cell.group c.in-Cell.cell o seat kept
    in
    IfOk-weaker c.state.result
    (λ (s : saved.CellState). cell_of_saved s ≡ cell_at o.cells c.in-Cell.cell)
    (λ (s : saved.CellState). leaf_of c.args.self.now.states leaf ≡ cell_state (cell_of_saved s))
    (λ s e. is ∙ sym (ap cell_state e)) c.state.ensures.state
