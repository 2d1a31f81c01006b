use Rattle.std.proofs.Common.{◌∙◌}
use Rattle.asked_words.proofs.Taken.{no_faults, some_fault}
use Rattle.asked_words.proofs.command.matches_in.Goals as goal

pub returns-in-Ok-clause-taken : goal.returns-in-Ok-clause-taken
returns-in-Ok-clause-taken c = no_faults _ (c.in-Ok.ensures.kinds c.requires.free)

pub returns-in-Ok-clause-rows : goal.returns-in-Ok-clause-rows
returns-in-Ok-clause-rows c = (c.in-Ok.ensures.matches c.requires.simple).0

pub returns-clause-taken : goal.returns-clause-taken
returns-clause-taken c =
    some_fault _ c.in-Err.error (c.in-Err.ensures.kinds c.requires.free) (λ e. c.in_default.not-OutOfMemory (c.kind.ensures ∙ e))
