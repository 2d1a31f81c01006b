use Rattle.std.proofs.Common.{◌≡◌, ◌+◌, Option, List, [], ◌∷◌, length, ℕ, sym, subst, arith, length-append}
use Rattle.model_leaves.specs.Models.{tree_of}
use Rattle.run_leaves.specs.Watching.{AreSeated}
use Rattle.run_leaves.proofs.Seating.{seated-more}
use Rattle.run_leaves.proofs.watchers.seat_all.Goals as goal

pub returns-clause-long : goal.returns-clause-long
returns-clause-long c = λ settings.
    omega (arith, c.leaves-leaf-end.ensures settings, c.loop-leaf-test.false, c.loop-leaf.auto.leaf-end, c.loop-leaf.invariant.long)

pub returns-clause-seated : goal.returns-clause-seated
returns-clause-seated c = λ settings. c.loop-leaf.invariant.seated settings

pub loop-leaf-preserved : goal.loop-leaf-preserved
loop-leaf-preserved c =
    let m = c.args.model.now in
    let seats = c.loop-leaf.seats in
    let blocks = c.seat_at.new.blocks.items in
    let seat : Option ℕ = c.in_ok-seat.seat.number in
    let n = c.loop-leaf.leaf in
    let long = c.loop-leaf.invariant.long in
    let longer = length-append seats (seat ∷ []) in
    let seated = c.in_ok-seat.ensures.seated in
    let here = c.in_ok-seat.ensures.seat in
    record {
      long = subst (λ (all : List (Option ℕ)). length all ≡ n + 1) (sym c.in_ok-add_seat.ensures) (omega (arith, long, longer));
      few = c.in_ok-seat.ensures.few;
      seated = λ settings.
          subst (λ (all : List (Option ℕ)). AreSeated (tree_of m settings) all blocks) (sym c.in_ok-add_seat.ensures)
          (seated-more (tree_of m settings) seats blocks n seat long (seated settings) (here settings));
    }

pub add_seat-requires-clause-few : goal.add_seat-requires-clause-few
add_seat-requires-clause-few c =
    let long = c.loop-leaf.invariant.long in
    let inside = c.loop-leaf-test.true in
    omega (arith, long, inside, c.leaves-leaf-end.type_inv)
