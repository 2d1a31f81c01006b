use Rattle.std.proofs.Common.{◌≡◌, ◌++◌, length, map}
use Rattle.quantity.specs.Bytes.{words}
use Rattle.model_walk.specs.Shown.{item_of, words_at}
use Rattle.model_walk.proofs.entries.add_entry.Given as goal

abbrev pub invariant-loop-text : goal.invariant-loop-text
invariant-loop-text l = map item_of l.found.items ++ words_at l.line (words l.rest) ≡ map item_of l.initial.found.items ++ words_at l.entry.line (words l.entry.value)

abbrev pub decreases-loop-text : goal.decreases-loop-text
decreases-loop-text l = length l.rest
