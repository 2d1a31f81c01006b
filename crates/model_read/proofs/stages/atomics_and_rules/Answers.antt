use Rattle.std.proofs.Common.{rules}
use Rattle.model_read.proofs.stages.atomics_and_rules.Goals as goal

-- by search, and named only so that a failure here is told at once
pub returns-in_err-rules-clause-refused : goal.returns-in_err-rules-clause-refused
returns-in_err-rules-clause-refused g c = search rules
