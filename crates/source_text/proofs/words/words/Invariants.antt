use Rattle.std.proofs.Common.{◌≡◌, ◌++◌, length}
use Rattle.quantity.specs.Bytes.{words}
use Rattle.source_text.specs.Shown.{texts}
use Rattle.source_text.proofs.words.words.Given as goal

abbrev pub invariant-loop-word : goal.invariant-loop-word
invariant-loop-word l = texts l.found.items ++ words l.rest ≡ words l.text

abbrev pub decreases-loop-word : goal.decreases-loop-word
decreases-loop-word l = length l.rest
