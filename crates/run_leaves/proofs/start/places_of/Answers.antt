use Rattle.std.proofs.Common.{◌≡◌, ◌+◌, List, [], ◌∷◌, length, sym, subst, arith, length-append}
use Rattle.model_leaves.specs.declared.leaves.LeafAt.{LeafAt}
use Rattle.model_leaves.specs.Models.{tree_of}
use Rattle.model_leaves.specs.Leaves.{no_settings, IsLeafOf, IsPlaceOf}
use Rattle.model_leaves.proofs.Read.{leaf-there}
use Rattle.run_leaves.specs.Placed.{StandThere}
use Rattle.run_leaves.specs.Anchored.{IsCellWithin}
use Rattle.run_leaves.proofs.Joined.{each-more}
use Rattle.run_leaves.proofs.Seating.{cell-within}
use Rattle.run_leaves.proofs.start.places_of.Goals as goal

pub push-requires-clause-few : goal.push-requires-clause-few
push-requires-clause-few c =
    let long = c.loop-leaf.invariant.0 in
    let inside = c.loop-leaf-test.true in
    omega (arith, long, inside, c.leaves-leaf-end.type_inv)

pub push-requires-clause-cell : goal.push-requires-clause-cell
push-requires-clause-cell c =
    let m = c.args.model.now in
    let leaf = c.loop-leaf.leaf in
    let inside = c.loop-leaf-test.true in
    let count = c.leaves-leaf-end.ensures no_settings in
    let is_leaf : IsLeafOf m leaf = omega (arith, inside, count) in
    let there = leaf-there m leaf is_leaf in
    subst (λ n. IsCellWithin n c.leaf_at.result) (sym c.loop-leaf.invariant.0)
    (cell-within (tree_of m no_settings) no_settings leaf c.leaf_at.result there.0 there.1 (c.leaf_at.ensures no_settings there.0 there.1))

pub loop-leaf-preserved : goal.loop-leaf-preserved
loop-leaf-preserved c =
    let m = c.args.model.now in
    let seats = c.loop-leaf.seats in
    let place : LeafAt = c.leaf_at.result in
    let long = c.loop-leaf.invariant.0 in
    let longer = length-append seats (place ∷ []) in
    subst (λ (all : List LeafAt). (length all ≡ c.loop-leaf.leaf + 1) × StandThere m all) (sym c.in_ok-push.ensures) (
      omega (arith, long, longer),
      each-more (IsPlaceOf m) seats place c.loop-leaf.invariant.1 (subst (λ n. IsPlaceOf m n place) (sym long) c.leaf_at.ensures),
    )
