use Rattle.std.proofs.Common.{◌≡◌, drop, take, map}
use Rattle.atomic_face.specs.Words.{are_values, word_of}
use Rattle.atomic_kinds.proofs.queue.values_of.Given as goal

abbrev pub invariant-loop-word : goal.invariant-loop-word
invariant-loop-word l =
    (are_values (drop l.word-index l.words) ≡ are_values l.words) × (map word_of l.values.items ≡ take l.word-index l.words)
