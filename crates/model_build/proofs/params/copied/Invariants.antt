use Rattle.std.proofs.Common.{◌≡◌, map, take}
use Rattle.model_text.specs.Stock.{param_of}
use Rattle.model_build.proofs.params.copied.Given as goal

abbrev pub invariant-loop-entry : goal.invariant-loop-entry
invariant-loop-entry l = l.params.items ≡ map param_of (take l.entry-index l.entries)
