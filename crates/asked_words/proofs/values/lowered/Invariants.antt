use Rattle.std.proofs.Common.{◌≡◌, map, take}
use Rattle.answer_model.specs.Asked.{lower}
use Rattle.asked_words.proofs.values.lowered.Given as goal

abbrev pub invariant-loop-c : goal.invariant-loop-c
invariant-loop-c l = l.low.items ≡ map lower (take l.c-index l.text)
