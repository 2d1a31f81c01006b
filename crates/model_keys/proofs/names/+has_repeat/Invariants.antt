use Rattle.std.proofs.Common.{length}
use Rattle.model_keys.proofs.names.+has_repeat.Given as goal

abbrev pub decreases-has_repeat : goal.decreases-has_repeat
decreases-has_repeat l = length l.found.now
