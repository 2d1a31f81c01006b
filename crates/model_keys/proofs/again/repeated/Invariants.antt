use Rattle.std.proofs.Common.{[], drop, map}
use Rattle.model_text.specs.Keys.{repeated_words}
use Rattle.model_walk.specs.Shown.{item_of}
use Rattle.model_keys.proofs.Parts.{Left}
use Rattle.model_keys.proofs.again.repeated.Given as goal

abbrev pub invariant-loop-item : goal.invariant-loop-item
invariant-loop-item l = Left l.first (repeated_words l.seen (map item_of (drop l.item-index l.item-items))) (repeated_words [] (map item_of l.item-items))
