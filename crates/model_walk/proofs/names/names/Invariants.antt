use Rattle.std.proofs.Common.{◌≡◌, map, take}
use Rattle.model_text.specs.Keyed.{Item}
use Rattle.model_walk.specs.Shown.{item_of}
use Rattle.model_walk.proofs.names.names.Given as goal

abbrev pub invariant-loop-word : goal.invariant-loop-word
invariant-loop-word l = l.names.items ≡ map (λ (i : Item). i.text) (map item_of (take l.word-index l.word-items))
