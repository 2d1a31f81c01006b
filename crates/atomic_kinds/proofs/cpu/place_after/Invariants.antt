use Rattle.std.proofs.Common.{◌≡◌, ◌≤◌, length, take}
use Rattle.atomic_kinds.specs.Pairs.{place_for}
use Rattle.atomic_kinds.proofs.cpu.place_after.Given as goal

abbrev pub invariant-loop-place : goal.invariant-loop-place
invariant-loop-place l =
    (l.place ≤ length l.pairs.items) × (place_for l.at (take l.place l.pairs.items) ≡ place_for l.at l.pairs.items)

abbrev pub decreases-loop-place : goal.decreases-loop-place
decreases-loop-place l = l.place
