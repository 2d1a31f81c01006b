use Rattle.std.proofs.Common.{◌≡◌, ◌∙◌, ◌++◌, true, Some, List, sym, ap, subst, arith}
use Rattle.std.specs.Prelude.{slice_get}
use Rattle.std.proofs.lemmas.Result.{on_ok_weaker}
use Rattle.atomic_face.specs.StockView.{Stocked}
use Rattle.model_leaves.specs.declared.leaves.LeafAt.TheVariants.{Atomic, Cell}
use Rattle.run_model.specs.Cycle.{LeafState}
use Rattle.sparse_cycle.specs.Sparse.{leaf_of}
use Rattle.run_leaves.specs.Seated.{Seated, is_box, state_there, states_in}
use Rattle.run_leaves.specs.Saved.{words_of}
use Rattle.run_leaves.proofs.Places.{read-at, found-at, index-get}
use Rattle.run_leaves.proofs.Inside.{box-within, cell-no-box, box-inside, box-is}
use Rattle.run_leaves.proofs.leaves.FlatLeaves.save_box.Goals as goal

pub at-requires : goal.at-requires
at-requires g c =
    let stock = c.self.inside.stock in
    let stores = c.self.inside.stores.items in
    let seats = c.self.inside.seats in
    let states : states_in stock stores seats ≡ c.args.self.now.states = ap (λ (s : Seated). s.states) c.self.view_is in
    box-within (state_there stock stores) seats c.args.leaf (subst (λ (ss : List LeafState). is_box (leaf_of ss c.args.leaf) ≡ true) (sym states) c.requires)

pub unreachable-requires : goal.unreachable-requires
unreachable-requires g c =
    let stock = c.self.inside.stock in
    let stores = c.self.inside.stores.items in
    let seats = c.self.inside.seats in
    let states : states_in stock stores seats ≡ c.args.self.now.states = ap (λ (s : Seated). s.states) c.self.view_is in
    let box = subst (λ (ss : List LeafState). is_box (leaf_of ss c.args.leaf) ≡ true) (sym states) c.requires in
    let seat : slice_get seats c.args.leaf ≡ Some (Cell c.in-Cell.group c.in-Cell.cell) = c.at.ensures ∙ ap Some c.in-Cell.is in
    cell-no-box stock stores seats c.args.leaf c.in-Cell.group c.in-Cell.cell seat box

pub save-requires : goal.save-requires
save-requires g c =
    let stock = c.self.inside.stock in
    let stores = c.self.inside.stores.items in
    let seats = c.self.inside.seats in
    let seat : slice_get seats c.args.leaf ≡ Some (Atomic c.in-Atomic.at) = c.at.ensures ∙ ap Some c.in-Atomic.is in
    box-inside _ seats stores stock c.self.invariant.0 c.args.leaf c.in-Atomic.at seat

pub returns-clause-ok : goal.returns-clause-ok
returns-clause-ok g c =
    let stock = c.self.inside.stock in
    let stores = c.self.inside.stores.items in
    let seats = c.self.inside.seats in
    let into = c.args.into.now.items in
    let states : states_in stock stores seats ≡ c.args.self.now.states = ap (λ (s : Seated). s.states) c.self.view_is in
    let seat : slice_get seats c.args.leaf ≡ Some (Atomic c.in-Atomic.at) = c.at.ensures ∙ ap Some c.in-Atomic.is in
    let there = found-at stock c.in-Atomic.at.0 (box-inside _ seats stores stock c.self.invariant.0 c.args.leaf c.in-Atomic.at seat) in
    on_ok_weaker c.save.result
    (λ h. h there.0
    ∙ ap (λ (s : Stocked). into ++ s.box.state) (index-get stock c.in-Atomic.at.0 there.0 there.0 there.1)
    ∙ ap (λ (x : LeafState). into ++ words_of x) (sym (box-is _ seats stores stock c.self.invariant.0 c.args.leaf c.in-Atomic.at there.0 seat there.1) ∙ ap (λ (ss : List LeafState). leaf_of ss c.args.leaf) states))
    c.save.ensures.ok
