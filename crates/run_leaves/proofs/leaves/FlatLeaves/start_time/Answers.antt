use Rattle.std.proofs.Common.{◌≡◌, ◌∙◌, ◌<◌, Some, List, length, sym, ap, arith}
use Rattle.std.specs.Prelude.{slice_get}
use Rattle.std.proofs.lemmas.List.{length-map}
use Rattle.atomic_face.specs.StockView.{Stocked}
use Rattle.atomic_face.specs.Moves.{next_of_box}
use Rattle.model_leaves.specs.declared.leaves.LeafAt.TheVariants.{Atomic, Cell}
use Rattle.run_model.specs.Cycle.{LeafState, leaf_next}
use Rattle.cell_table.specs.Told.{cell_at}
use Rattle.sparse_cycle.specs.Sparse.{leaf_of}
use Rattle.run_leaves.specs.Seated.{Seated, state_there, states_in}
use Rattle.run_leaves.proofs.Places.{read-at, found-at, index-get}
use Rattle.run_leaves.proofs.Inside.{box-inside, box-is, store-inside, cell-is}
use Rattle.run_leaves.proofs.AtStart.{time-0, cell-waits}
use Rattle.run_leaves.proofs.leaves.FlatLeaves.start_time.Goals as goal

pub next-requires : goal.next-requires
next-requires g c =
    let stock = c.self.inside.stock in
    let stores = c.self.inside.stores.items in
    let seats = c.self.inside.seats in
    let seat : slice_get seats c.args.leaf ≡ Some (Atomic c.in-Atomic.at) = c.at.ensures ∙ ap Some c.in-Atomic.is in
    box-inside _ seats stores stock c.self.invariant.0 c.args.leaf c.in-Atomic.at seat

pub returns-in-Atomic : goal.returns-in-Atomic
returns-in-Atomic g c =
    let stock = c.self.inside.stock in
    let stores = c.self.inside.stores.items in
    let seats = c.self.inside.seats in
    let states : states_in stock stores seats ≡ c.args.self.now.states = ap (λ (s : Seated). s.states) c.self.view_is in
    let seat : slice_get seats c.args.leaf ≡ Some (Atomic c.in-Atomic.at) = c.at.ensures ∙ ap Some c.in-Atomic.is in
    let there = found-at stock c.in-Atomic.at.0 (box-inside _ seats stores stock c.self.invariant.0 c.args.leaf c.in-Atomic.at seat) in
    c.next.ensures there.0
    ∙ ap (λ (s : Stocked). next_of_box s.box) (index-get stock c.in-Atomic.at.0 there.0 there.0 there.1)
    ∙ sym (ap leaf_next (box-is _ seats stores stock c.self.invariant.0 c.args.leaf c.in-Atomic.at there.0 seat there.1))
    ∙ ap (λ (ss : List LeafState). leaf_next (leaf_of ss c.args.leaf)) states

pub returns-in-Cell : goal.returns-in-Cell
returns-in-Cell g c =
    let stock = c.self.inside.stock in
    let stores = c.self.inside.stores.items in
    let seats = c.self.inside.seats in
    let states : states_in stock stores seats ≡ c.args.self.now.states = ap (λ (s : Seated). s.states) c.self.view_is in
    let seat : slice_get seats c.args.leaf ≡ Some (Cell c.in-Cell.group c.in-Cell.cell) = c.at.ensures ∙ ap Some c.in-Cell.is in
    let there = found-at stores c.in-Cell.group (store-inside _ seats stores stock c.self.invariant.0 c.args.leaf c.in-Cell.group c.in-Cell.cell seat) in
    let is = sym (ap (λ (ss : List LeafState). leaf_of ss c.args.leaf) states) ∙ cell-is _ seats stores stock c.self.invariant.0 c.args.leaf c.in-Cell.group c.in-Cell.cell there.0 seat there.1 in
    time-0 c.new.result c.new.ensures
    ∙ sym (cell-waits (leaf_of c.args.self.now.states c.args.leaf) (cell_at there.0.cells c.in-Cell.cell) is c.requires.start)
