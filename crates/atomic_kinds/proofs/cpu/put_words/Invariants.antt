use Rattle.std.proofs.Common.{◌≡◌, ◌++◌, drop}
use Rattle.atomic_kinds.specs.Pairs.{pair_words}
use Rattle.atomic_kinds.proofs.cpu.put_words.Given as goal

abbrev pub invariant-loop-pair : goal.invariant-loop-pair
invariant-loop-pair l = l.words.items ++ pair_words (drop l.pair-index l.pairs) ≡ l.initial.words.items ++ pair_words l.pairs
