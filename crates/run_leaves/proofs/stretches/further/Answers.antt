use Rattle.std.proofs.Common.{ℕ, ◌+◌, ◌-◌, ◌/◌, ◌<◌, length, arith}
use Rattle.run_leaves.proofs.Places.{within-get}
use Rattle.run_leaves.proofs.Stretched.{begun-few}
use Rattle.run_leaves.proofs.Halved.{number-from, number-below}
use Rattle.run_leaves.proofs.stretches.further.Goals as goal

pub halves-init : goal.halves-init
halves-init c =
    let few = begun-few c.args.starts.now c.args.leaf in
    record { from = omega arith; below = omega (arith, few, c.requires.some); within = omega arith }

pub halves-preserved-then-starts-middle : goal.halves-preserved-then-starts-middle
halves-preserved-then-starts-middle c =
    let starts = c.args.starts.now in
    let middle : ℕ = c.halves.low + (c.halves.high - c.halves.low) / 2 in
    let inside : middle < length starts = omega (arith, c.halves.invariant.from, c.halves.invariant.below, c.halves.invariant.within, c.halves-test.true) in
    record {
      from = number-from starts middle _ c.args.leaf c.requires.rising (within-get starts middle 0 inside) c.if-starts-middle.true;
      below = c.halves.invariant.below;
      within = c.halves.invariant.within;
    }

pub halves-preserved : goal.halves-preserved
halves-preserved c =
    let starts = c.args.starts.now in
    let middle : ℕ = c.halves.low + (c.halves.high - c.halves.low) / 2 in
    let inside : middle < length starts = omega (arith, c.halves.invariant.from, c.halves.invariant.below, c.halves.invariant.within, c.halves-test.true) in
    record {
      from = c.halves.invariant.from;
      below = number-below starts middle _ c.args.leaf (within-get starts middle 0 inside) c.if-starts-middle.false (omega (arith, c.halves-test.true));
      within = omega (arith, inside);
    }
