use Rattle.std.proofs.Common.{◌≡◌, ◌∙◌, Some, List, ◌++◌, length, sym, ap, arith}
use Rattle.std.specs.Prelude.{slice_get, slice_set}
use Rattle.std.proofs.lemmas.Result.{on_ok_weaker, on_err_weaker}
use Rattle.model_leaves.specs.declared.leaves.LeafAt.TheVariants.{Atomic, Cell}
use Rattle.run_model.specs.CellStep.{cell_emitted, cell_output}
use Rattle.run_model.specs.Cycle.{LeafState, cell_state, leaf_next, leaf_emitted, collected_of}
use Rattle.cell_engine.specs.Cells.{Cells}
use Rattle.cell_table.specs.Told.{cell_at}
use Rattle.sparse_cycle.specs.Sparse.{leaf_of}
use Rattle.run_leaves.specs.Seated.{Seated, states_in}
use Rattle.run_leaves.specs.Moving.{with_seated_state}
use Rattle.run_leaves.proofs.Places.{read-at, found-at, index-get}
use Rattle.run_leaves.specs.Seated.{state_there}
use Rattle.run_leaves.proofs.Inside.{due-within, box-inside, box-is, store-inside, cell-inside, cell-is}
use Rattle.run_leaves.proofs.Emitting.{due-gives, emitted-port, box-collected, box-gives}
use Rattle.run_leaves.proofs.Given.{stays, one-cell, still-placed, still-ports, port-here}
use Rattle.std.proofs.lemmas.List.{length-set}
use Rattle.atomic_face.specs.Moves.{output_of_box}
use Rattle.run_leaves.proofs.leaves.FlatLeaves.emit_leaf.Goals as goal

pub output-requires : goal.output-requires
output-requires g c =
    let stock = c.self.inside.stock in
    let stores = c.self.inside.stores.items in
    let seats = c.self.inside.seats in
    let leaf = c.args.leaf in
    let seat : slice_get seats leaf ≡ Some (Atomic c.in-Atomic.at) = c.at.ensures ∙ ap Some c.in-Atomic.is in
    box-inside _ seats stores stock c.self.invariant.0 leaf c.in-Atomic.at seat

pub index_mut-requires : goal.index_mut-requires
index_mut-requires g c =
    let stock = c.self.inside.stock in
    let stores = c.self.inside.stores.items in
    let seats = c.self.inside.seats in
    let leaf = c.args.leaf in
    let seat : slice_get seats leaf ≡ Some (Cell c.in-Cell.group c.in-Cell.cell) = c.at.ensures ∙ ap Some c.in-Cell.is in
    let inside = store-inside _ seats stores stock c.self.invariant.0 leaf c.in-Cell.group c.in-Cell.cell seat in
    omega (arith, inside, c.self.inside.stores.ok.0)

pub emit_cell-requires-clause-within : goal.emit_cell-requires-clause-within
emit_cell-requires-clause-within g c =
    let stock = c.self.inside.stock in
    let stores = c.self.inside.stores.items in
    let seats = c.self.inside.seats in
    let leaf = c.args.leaf in
    let seat : slice_get seats leaf ≡ Some (Cell c.in-Cell.group c.in-Cell.cell) = c.at.ensures ∙ ap Some c.in-Cell.is in
    let o : Cells = c.index_mut.result.now in
    let kept : slice_get stores c.in-Cell.group ≡ Some o = read-at stores c.in-Cell.group o (store-inside _ seats stores stock c.self.invariant.0 leaf c.in-Cell.group c.in-Cell.cell seat) c.index_mut.ensures.value in
    cell-inside _ seats stores stock c.self.invariant.0 leaf c.in-Cell.group c.in-Cell.cell o seat kept

pub emit_cell-requires-clause-due : goal.emit_cell-requires-clause-due
emit_cell-requires-clause-due g c =
    let stock = c.self.inside.stock in
    let stores = c.self.inside.stores.items in
    let seats = c.self.inside.seats in
    let leaf = c.args.leaf in
    let states : states_in stock stores seats ≡ c.args.self.now.states = ap (λ (s : Seated). s.states) c.self.view_is in
    let due : leaf_next (leaf_of (states_in stock stores seats) leaf) ≡ Some c.args.t = ap (λ (ss : List LeafState). leaf_next (leaf_of ss leaf)) states ∙ c.requires.due in
    let seat : slice_get seats leaf ≡ Some (Cell c.in-Cell.group c.in-Cell.cell) = c.at.ensures ∙ ap Some c.in-Cell.is in
    let o : Cells = c.index_mut.result.now in
    let kept : slice_get stores c.in-Cell.group ≡ Some o = read-at stores c.in-Cell.group o (store-inside _ seats stores stock c.self.invariant.0 leaf c.in-Cell.group c.in-Cell.cell seat) c.index_mut.ensures.value in
    sym (ap leaf_next (cell-is _ seats stores stock c.self.invariant.0 leaf c.in-Cell.group c.in-Cell.cell o seat kept)) ∙ due

pub invariant_of-self : goal.invariant_of-self
invariant_of-self g c =
    let stock = c.self.inside.stock in
    let stores = c.self.inside.stores.items in
    let seats = c.self.inside.seats in
    let leaf = c.args.leaf in
    let states : states_in stock stores seats ≡ c.args.self.now.states = ap (λ (s : Seated). s.states) c.self.view_is in
    let seat : slice_get seats leaf ≡ Some (Cell c.in-Cell.group c.in-Cell.cell) = c.at.ensures ∙ ap Some c.in-Cell.is in
    let o : Cells = c.index_mut.result.now in
    let kept : slice_get stores c.in-Cell.group ≡ Some o = read-at stores c.in-Cell.group o (store-inside _ seats stores stock c.self.invariant.0 leaf c.in-Cell.group c.in-Cell.cell seat) c.index_mut.ensures.value in
    let made : Cells = c.emit_cell.new.store in
    let layout : made.layout ≡ o.layout = ap (λ (s : Cells). s.layout) c.emit_cell.ensures.cells in
    let cells : made.cells ≡ slice_set o.cells c.in-Cell.cell (cell_emitted c.args.t (cell_at o.cells c.in-Cell.cell)) = ap (λ (s : Cells). s.cells) c.emit_cell.ensures.cells in
    let is : leaf_of (states_in stock stores seats) leaf ≡ cell_state (cell_at o.cells c.in-Cell.cell) = cell-is _ seats stores stock c.self.invariant.0 leaf c.in-Cell.group c.in-Cell.cell o seat kept in
    let is_now : leaf_of c.args.self.now.states leaf ≡ cell_state (cell_at o.cells c.in-Cell.cell) = sym (ap (λ (ss : List LeafState). leaf_of ss leaf) states) ∙ is in (
      still-placed _ c.self.inside.model seats stores stock c.self.invariant.0 c.self.invariant.1 leaf c.in-Cell.group c.in-Cell.cell o made seat kept layout (ap length cells ∙ length-set o.cells c.in-Cell.cell (cell_emitted c.args.t (cell_at o.cells c.in-Cell.cell))),
      still-ports _ c.self.inside.model seats stores stock c.self.invariant.0 c.self.invariant.1 leaf c.in-Cell.group c.in-Cell.cell o made seat kept layout (cell_emitted c.args.t (cell_at o.cells c.in-Cell.cell)) cells
          (emitted-port c.args.t (cell_at o.cells c.in-Cell.cell) (port-here _ c.self.inside.model seats stores stock c.self.invariant.0 c.self.invariant.1 leaf c.in-Cell.group c.in-Cell.cell o made seat kept layout)),
    )

pub returns-in-Atomic-clause-given : goal.returns-in-Atomic-clause-given
returns-in-Atomic-clause-given g c =
    let stock = c.self.inside.stock in
    let stores = c.self.inside.stores.items in
    let seats = c.self.inside.seats in
    let leaf = c.args.leaf in
    let states : states_in stock stores seats ≡ c.args.self.now.states = ap (λ (s : Seated). s.states) c.self.view_is in
    let due : leaf_next (leaf_of (states_in stock stores seats) leaf) ≡ Some c.args.t = ap (λ (ss : List LeafState). leaf_next (leaf_of ss leaf)) states ∙ c.requires.due in
    let seat : slice_get seats leaf ≡ Some (Atomic c.in-Atomic.at) = c.at.ensures ∙ ap Some c.in-Atomic.is in
    let there = found-at stock c.in-Atomic.at.0 (box-inside _ seats stores stock c.self.invariant.0 leaf c.in-Atomic.at seat) in
    let is = box-is _ seats stores stock c.self.invariant.0 leaf c.in-Atomic.at there.0 seat there.1 in
    on_ok_weaker c.output.result
    (λ h. h there.0
    ∙ (λ i. c.requires.empty i ++ output_of_box (index-get stock c.in-Atomic.at.0 there.0 there.0 there.1 i).box)
    ∙ sym (box-collected c.args.t there.0.box (sym (ap leaf_next is) ∙ due))
    ∙ sym (ap (collected_of c.args.t) is)
    ∙ ap (λ (ss : List LeafState). collected_of c.args.t (leaf_of ss leaf)) states)
    c.output.ensures.ok

pub returns-in-Atomic-clause-leaves : goal.returns-in-Atomic-clause-leaves
returns-in-Atomic-clause-leaves g c =
    let stock = c.self.inside.stock in
    let stores = c.self.inside.stores.items in
    let seats = c.self.inside.seats in
    let leaf = c.args.leaf in
    let states : states_in stock stores seats ≡ c.args.self.now.states = ap (λ (s : Seated). s.states) c.self.view_is in
    let seat : slice_get seats leaf ≡ Some (Atomic c.in-Atomic.at) = c.at.ensures ∙ ap Some c.in-Atomic.is in
    let there = found-at stock c.in-Atomic.at.0 (box-inside _ seats stores stock c.self.invariant.0 leaf c.in-Atomic.at seat) in
    let is = box-is _ seats stores stock c.self.invariant.0 leaf c.in-Atomic.at there.0 seat there.1 in
    box-gives c.args.self.now leaf c.args.t there.0.box (sym (ap (λ (ss : List LeafState). leaf_of ss leaf) states) ∙ is)

pub returns-in-Cell-clause-given : goal.returns-in-Cell-clause-given
returns-in-Cell-clause-given g c =
    let stock = c.self.inside.stock in
    let stores = c.self.inside.stores.items in
    let seats = c.self.inside.seats in
    let leaf = c.args.leaf in
    let states : states_in stock stores seats ≡ c.args.self.now.states = ap (λ (s : Seated). s.states) c.self.view_is in
    let seat : slice_get seats leaf ≡ Some (Cell c.in-Cell.group c.in-Cell.cell) = c.at.ensures ∙ ap Some c.in-Cell.is in
    let o : Cells = c.index_mut.result.now in
    let kept : slice_get stores c.in-Cell.group ≡ Some o = read-at stores c.in-Cell.group o (store-inside _ seats stores stock c.self.invariant.0 leaf c.in-Cell.group c.in-Cell.cell seat) c.index_mut.ensures.value in
    let made : Cells = c.emit_cell.new.store in
    let layout : made.layout ≡ o.layout = ap (λ (s : Cells). s.layout) c.emit_cell.ensures.cells in
    let cells : made.cells ≡ slice_set o.cells c.in-Cell.cell (cell_emitted c.args.t (cell_at o.cells c.in-Cell.cell)) = ap (λ (s : Cells). s.cells) c.emit_cell.ensures.cells in
    let is : leaf_of (states_in stock stores seats) leaf ≡ cell_state (cell_at o.cells c.in-Cell.cell) = cell-is _ seats stores stock c.self.invariant.0 leaf c.in-Cell.group c.in-Cell.cell o seat kept in
    let is_now : leaf_of c.args.self.now.states leaf ≡ cell_state (cell_at o.cells c.in-Cell.cell) = sym (ap (λ (ss : List LeafState). leaf_of ss leaf) states) ∙ is in
    on_ok_weaker c.emit_cell.result
    (λ h. h ∙ (λ i. c.requires.empty i ++ cell_output c.args.t (cell_at o.cells c.in-Cell.cell)) ∙ sym (ap (collected_of c.args.t) is_now))
    c.emit_cell.ensures.given

pub returns-in-Cell-clause-leaves : goal.returns-in-Cell-clause-leaves
returns-in-Cell-clause-leaves g c =
    let stock = c.self.inside.stock in
    let stores = c.self.inside.stores.items in
    let seats = c.self.inside.seats in
    let leaf = c.args.leaf in
    let states : states_in stock stores seats ≡ c.args.self.now.states = ap (λ (s : Seated). s.states) c.self.view_is in
    let seat : slice_get seats leaf ≡ Some (Cell c.in-Cell.group c.in-Cell.cell) = c.at.ensures ∙ ap Some c.in-Cell.is in
    let o : Cells = c.index_mut.result.now in
    let kept : slice_get stores c.in-Cell.group ≡ Some o = read-at stores c.in-Cell.group o (store-inside _ seats stores stock c.self.invariant.0 leaf c.in-Cell.group c.in-Cell.cell seat) c.index_mut.ensures.value in
    let made : Cells = c.emit_cell.new.store in
    let layout : made.layout ≡ o.layout = ap (λ (s : Cells). s.layout) c.emit_cell.ensures.cells in
    let cells : made.cells ≡ slice_set o.cells c.in-Cell.cell (cell_emitted c.args.t (cell_at o.cells c.in-Cell.cell)) = ap (λ (s : Cells). s.cells) c.emit_cell.ensures.cells in
    let is : leaf_of (states_in stock stores seats) leaf ≡ cell_state (cell_at o.cells c.in-Cell.cell) = cell-is _ seats stores stock c.self.invariant.0 leaf c.in-Cell.group c.in-Cell.cell o seat kept in
    let is_now : leaf_of c.args.self.now.states leaf ≡ cell_state (cell_at o.cells c.in-Cell.cell) = sym (ap (λ (ss : List LeafState). leaf_of ss leaf) states) ∙ is in
    one-cell _ c.self.inside.model seats stores stock c.self.invariant.0 c.self.invariant.1 leaf c.in-Cell.group c.in-Cell.cell o made seat kept layout (cell_emitted c.args.t (cell_at o.cells c.in-Cell.cell)) cells c.args.self.now c.self.view_is
    ∙ sym (ap (λ (s : LeafState). with_seated_state c.args.self.now leaf (leaf_emitted c.args.t s)) is_now)

pub returns-in-Cell-clause-err : goal.returns-in-Cell-clause-err
returns-in-Cell-clause-err g c = on_err_weaker c.emit_cell.result (λ none. none ∙ sym c.requires.empty) c.emit_cell.ensures.err

pub returns-in-Cell-clause-kept : goal.returns-in-Cell-clause-kept
returns-in-Cell-clause-kept g c =
    let stock = c.self.inside.stock in
    let stores = c.self.inside.stores.items in
    let seats = c.self.inside.seats in
    let leaf = c.args.leaf in
    let states : states_in stock stores seats ≡ c.args.self.now.states = ap (λ (s : Seated). s.states) c.self.view_is in
    let seat : slice_get seats leaf ≡ Some (Cell c.in-Cell.group c.in-Cell.cell) = c.at.ensures ∙ ap Some c.in-Cell.is in
    let o : Cells = c.index_mut.result.now in
    let kept : slice_get stores c.in-Cell.group ≡ Some o = read-at stores c.in-Cell.group o (store-inside _ seats stores stock c.self.invariant.0 leaf c.in-Cell.group c.in-Cell.cell seat) c.index_mut.ensures.value in
    let made : Cells = c.emit_cell.new.store in
    let layout : made.layout ≡ o.layout = ap (λ (s : Cells). s.layout) c.emit_cell.ensures.cells in
    let cells : made.cells ≡ slice_set o.cells c.in-Cell.cell (cell_emitted c.args.t (cell_at o.cells c.in-Cell.cell)) = ap (λ (s : Cells). s.cells) c.emit_cell.ensures.cells in
    let is : leaf_of (states_in stock stores seats) leaf ≡ cell_state (cell_at o.cells c.in-Cell.cell) = cell-is _ seats stores stock c.self.invariant.0 leaf c.in-Cell.group c.in-Cell.cell o seat kept in
    let is_now : leaf_of c.args.self.now.states leaf ≡ cell_state (cell_at o.cells c.in-Cell.cell) = sym (ap (λ (ss : List LeafState). leaf_of ss leaf) states) ∙ is in
    stays _ c.self.inside.model seats stores stock c.self.invariant.0 c.self.invariant.1 leaf c.in-Cell.group c.in-Cell.cell o made seat kept layout c.args.self.now c.self.view_is

pub returns-in-Cell-clause-visits : goal.returns-in-Cell-clause-visits
returns-in-Cell-clause-visits g c =
    let stock = c.self.inside.stock in
    let stores = c.self.inside.stores.items in
    let seats = c.self.inside.seats in
    let leaf = c.args.leaf in
    let states : states_in stock stores seats ≡ c.args.self.now.states = ap (λ (s : Seated). s.states) c.self.view_is in
    let due : leaf_next (leaf_of (states_in stock stores seats) leaf) ≡ Some c.args.t = ap (λ (ss : List LeafState). leaf_next (leaf_of ss leaf)) states ∙ c.requires.due in
    let seat : slice_get seats leaf ≡ Some (Cell c.in-Cell.group c.in-Cell.cell) = c.at.ensures ∙ ap Some c.in-Cell.is in
    let o : Cells = c.index_mut.result.now in
    let kept : slice_get stores c.in-Cell.group ≡ Some o = read-at stores c.in-Cell.group o (store-inside _ seats stores stock c.self.invariant.0 leaf c.in-Cell.group c.in-Cell.cell seat) c.index_mut.ensures.value in
    let made : Cells = c.emit_cell.new.store in
    let layout : made.layout ≡ o.layout = ap (λ (s : Cells). s.layout) c.emit_cell.ensures.cells in
    let cells : made.cells ≡ slice_set o.cells c.in-Cell.cell (cell_emitted c.args.t (cell_at o.cells c.in-Cell.cell)) = ap (λ (s : Cells). s.cells) c.emit_cell.ensures.cells in
    let is : leaf_of (states_in stock stores seats) leaf ≡ cell_state (cell_at o.cells c.in-Cell.cell) = cell-is _ seats stores stock c.self.invariant.0 leaf c.in-Cell.group c.in-Cell.cell o seat kept in
    let is_now : leaf_of c.args.self.now.states leaf ≡ cell_state (cell_at o.cells c.in-Cell.cell) = sym (ap (λ (ss : List LeafState). leaf_of ss leaf) states) ∙ is in
    let gives = due-gives c.args.t (cell_at o.cells c.in-Cell.cell) (sym (ap leaf_next is) ∙ due) in
    let same : length (collected_of c.args.t (leaf_of c.args.self.now.states leaf)) ≡ length (cell_output c.args.t (cell_at o.cells c.in-Cell.cell)) = ap (λ s. length (collected_of c.args.t s)) is_now in
    omega (arith, c.emit_cell.ensures.visits, gives, same)
