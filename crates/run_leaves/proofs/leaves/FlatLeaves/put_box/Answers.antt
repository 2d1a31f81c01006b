use Rattle.std.proofs.Common.{◌≡◌, ◌∙◌, true, Some, List, sym, ap, subst, arith}
use Rattle.std.specs.Prelude.{slice_get, ℤ}
use Rattle.std.proofs.lemmas.Result.{on_err_weaker}
use Rattle.model_leaves.specs.declared.leaves.LeafAt.TheVariants.{Atomic, Cell}
use Rattle.run_model.specs.Cycle.{LeafState}
use Rattle.sparse_cycle.specs.Sparse.{leaf_of}
use Rattle.run_leaves.specs.Seated.{Seated, is_box, state_there, states_in, settings_in, layouts_in, sizes_in, tree_at, Places}
use Rattle.run_leaves.proofs.Places.{read-at}
use Rattle.run_leaves.proofs.Inside.{box-within, cell-no-box, box-inside}
use Rattle.run_leaves.proofs.Given.{seen}
use Rattle.run_leaves.proofs.Putting.{put-settings, put-box}
use Rattle.run_leaves.proofs.leaves.FlatLeaves.put_box.Goals as goal

pub at-requires : goal.at-requires
at-requires g c =
    let stock = c.self.inside.stock in
    let stores = c.self.inside.stores.items in
    let seats = c.self.inside.seats in
    let states : states_in stock stores seats ≡ c.args.self.now.states = ap (λ (s : Seated). s.states) c.self.view_is in
    box-within (state_there stock stores) seats c.args.leaf (subst (λ (ss : List LeafState). is_box (leaf_of ss c.args.leaf) ≡ true) (sym states) c.requires)

pub unreachable-requires : goal.unreachable-requires
unreachable-requires g c =
    let stock = c.self.inside.stock in
    let stores = c.self.inside.stores.items in
    let seats = c.self.inside.seats in
    let states : states_in stock stores seats ≡ c.args.self.now.states = ap (λ (s : Seated). s.states) c.self.view_is in
    let box = subst (λ (ss : List LeafState). is_box (leaf_of ss c.args.leaf) ≡ true) (sym states) c.requires in
    let seat : slice_get seats c.args.leaf ≡ Some (Cell c.in-Cell.group c.in-Cell.cell) = c.at.ensures ∙ ap Some c.in-Cell.is in
    cell-no-box stock stores seats c.args.leaf c.in-Cell.group c.in-Cell.cell seat box

pub restore-requires : goal.restore-requires
restore-requires g c =
    let stock = c.self.inside.stock in
    let stores = c.self.inside.stores.items in
    let seats = c.self.inside.seats in
    let leaf = c.args.leaf in
    let seat : slice_get seats leaf ≡ Some (Atomic c.in-Atomic.at) = c.at.ensures ∙ ap Some c.in-Atomic.is in
    box-inside _ seats stores stock c.self.invariant.0 leaf c.in-Atomic.at seat

pub invariant_of-self : goal.invariant_of-self
invariant_of-self g c =
    let stock = c.self.inside.stock in
    let stores = c.self.inside.stores.items in
    let seats = c.self.inside.seats in
    let settings : settings_in c.restore.new.self ≡ settings_in stock = put-settings _ c.args.words.now c.restore.result c.in-Atomic.at.0 stock c.restore.new.self c.restore.ensures.restores in
    (subst (λ (ss : List (List ℤ)). Places (tree_at c.self.inside.model ss) seats ss (layouts_in stores) (sizes_in stores)) (sym settings) c.self.invariant.0, c.self.invariant.1)

pub returns-clause-puts : goal.returns-clause-puts
returns-clause-puts g c =
    let stock = c.self.inside.stock in
    let stores = c.self.inside.stores.items in
    let seats = c.self.inside.seats in
    let leaf = c.args.leaf in
    let seat : slice_get seats leaf ≡ Some (Atomic c.in-Atomic.at) = c.at.ensures ∙ ap Some c.in-Atomic.is in
    put-box _ c.args.words.now c.restore.result _ c.self.inside.model seats stores stock c.restore.new.self c.self.invariant.0 leaf c.in-Atomic.at seat c.restore.ensures.restores c.args.self.now c.self.view_is

pub returns-clause-err : goal.returns-clause-err
returns-clause-err g c =
    on_err_weaker c.restore.result (λ e. ap (λ x. seen c.self.inside.model c.self.inside.seats c.self.inside.stores.items x) e ∙ c.self.view_is) c.restore.ensures.err
