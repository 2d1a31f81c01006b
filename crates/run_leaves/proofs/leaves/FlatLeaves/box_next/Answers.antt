use Rattle.std.proofs.Common.{◌≡◌, ◌∙◌, true, Some, List, sym, ap, subst, arith}
use Rattle.std.specs.Prelude.{slice_get}
use Rattle.atomic_face.specs.StockView.{Stocked}
use Rattle.atomic_face.specs.Moves.{next_of_box}
use Rattle.model_leaves.specs.declared.leaves.LeafAt.TheVariants.{Atomic, Cell}
use Rattle.run_model.specs.Cycle.{LeafState, leaf_next}
use Rattle.sparse_cycle.specs.Sparse.{leaf_of}
use Rattle.run_leaves.specs.Seated.{Seated, is_box, state_there, states_in}
use Rattle.run_leaves.proofs.Places.{read-at, found-at, index-get}
use Rattle.run_leaves.proofs.Inside.{box-within, cell-no-box, box-inside, box-is}
use Rattle.run_leaves.proofs.leaves.FlatLeaves.box_next.Goals as goal

pub at-requires : goal.at-requires
at-requires g c =
    let stock = c.self.inside.stock in
    let stores = c.self.inside.stores.items in
    let seats = c.self.inside.seats in
    let states : states_in stock stores seats ≡ c.args.self.now.states = ap (λ (s : Seated). s.states) c.self.view_is in
    box-within (state_there stock stores) seats c.args.leaf (subst (λ (ss : List LeafState). is_box (leaf_of ss c.args.leaf) ≡ true) (sym states) c.requires)

pub unreachable-requires : goal.unreachable-requires
unreachable-requires g c =
    let stock = c.self.inside.stock in
    let stores = c.self.inside.stores.items in
    let seats = c.self.inside.seats in
    let states : states_in stock stores seats ≡ c.args.self.now.states = ap (λ (s : Seated). s.states) c.self.view_is in
    let box = subst (λ (ss : List LeafState). is_box (leaf_of ss c.args.leaf) ≡ true) (sym states) c.requires in
    let seat : slice_get seats c.args.leaf ≡ Some (Cell c.in-Cell.group c.in-Cell.cell) = c.at.ensures ∙ ap Some c.in-Cell.is in
    cell-no-box stock stores seats c.args.leaf c.in-Cell.group c.in-Cell.cell seat box

pub next-requires : goal.next-requires
next-requires g c =
    let stock = c.self.inside.stock in
    let stores = c.self.inside.stores.items in
    let seats = c.self.inside.seats in
    let seat : slice_get seats c.args.leaf ≡ Some (Atomic c.in-Atomic.at) = c.at.ensures ∙ ap Some c.in-Atomic.is in
    box-inside _ seats stores stock c.self.invariant.0 c.args.leaf c.in-Atomic.at seat

pub returns : goal.returns
returns g c =
    let stock = c.self.inside.stock in
    let stores = c.self.inside.stores.items in
    let seats = c.self.inside.seats in
    let states : states_in stock stores seats ≡ c.args.self.now.states = ap (λ (s : Seated). s.states) c.self.view_is in
    let seat : slice_get seats c.args.leaf ≡ Some (Atomic c.in-Atomic.at) = c.at.ensures ∙ ap Some c.in-Atomic.is in
    let there = found-at stock c.in-Atomic.at.0 (box-inside _ seats stores stock c.self.invariant.0 c.args.leaf c.in-Atomic.at seat) in
    c.next.ensures there.0
    ∙ ap (λ (s : Stocked). next_of_box s.box) (index-get stock c.in-Atomic.at.0 there.0 there.0 there.1)
    ∙ sym (ap leaf_next (box-is _ seats stores stock c.self.invariant.0 c.args.leaf c.in-Atomic.at there.0 seat there.1))
    ∙ ap (λ (ss : List LeafState). leaf_next (leaf_of ss c.args.leaf)) states
