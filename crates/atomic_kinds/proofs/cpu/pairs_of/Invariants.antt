use Rattle.std.proofs.Common.{◌≡◌, ◌++◌, length}
use Rattle.std.specs.Prelude.{pos}
use Rattle.atomic_face.specs.Cpu.{are_pairs}
use Rattle.atomic_kinds.specs.Pairs.{pair_words}
use Rattle.atomic_kinds.proofs.cpu.pairs_of.Given as goal

abbrev pub invariant-loop-pair : goal.invariant-loop-pair
invariant-loop-pair l =
    (are_pairs (pos l.before) l.rest ≡ are_pairs (pos 0) l.words) × (pair_words l.pairs.items ++ l.rest ≡ l.words)

abbrev pub decreases-loop-pair : goal.decreases-loop-pair
decreases-loop-pair l = length l.rest
