use Rattle.std.proofs.Common.{◌≡◌, length, map}
use Rattle.source_text.specs.Shown.{named_of}
use Rattle.model_text.specs.Forms as F
use Rattle.model_walk.proofs.Gathered.{behind}
use Rattle.model_walk.proofs.tuples.tuples_of.Given as goal

abbrev pub invariant-loop-part : goal.invariant-loop-part
invariant-loop-part l = behind (map named_of l.found.items) (F.tuples_of l.group l.rest) ≡ F.tuples_of l.group l.text

abbrev pub decreases-loop-part : goal.decreases-loop-part
decreases-loop-part l = length l.rest
