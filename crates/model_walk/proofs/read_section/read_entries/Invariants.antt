use Rattle.std.proofs.Common.{take}
use Rattle.model_walk.specs.ReadValues.{AreRead}
use Rattle.model_walk.proofs.read_section.read_entries.Given as goal

abbrev pub invariant-loop-entry : goal.invariant-loop-entry
invariant-loop-entry l = AreRead l.section.name (take l.entry-index l.entry-items) l.entries.items
