use Rattle.std.proofs.Common.{◌≡◌, ◌++◌, map, take}
use Rattle.source_text.specs.Shown.{texts}
use Rattle.model_walk.specs.Shown.{item_of, words_at}
use Rattle.model_walk.proofs.names.add_words.Given as goal

abbrev pub invariant-loop-text : goal.invariant-loop-text
invariant-loop-text l = map item_of l.found.items ≡ map item_of l.initial.found.items ++ words_at l.line (texts (take l.text-index l.text-items))
