use Rattle.std.proofs.Common.{◌≡◌, ◌≤◌, length, map}
use Rattle.std.specs.String.{string_bytes}
use Rattle.room_edge.proofs.folder.write_to.Given as goal

abbrev pub invariant-loop-at : goal.invariant-loop-at
invariant-loop-at g l = record {
  within : l.at ≤ length l.made.items;
  names : map (λ m. string_bytes m.name) l.made.items ≡ map (λ m. string_bytes m.name) l.fn.made.items;
}

abbrev pub decreases-loop-at : goal.decreases-loop-at
decreases-loop-at g l = l.at
