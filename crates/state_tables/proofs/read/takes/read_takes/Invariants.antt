use Rattle.std.proofs.Common.{length, drop}
use Rattle.std.specs.Prelude.{All}
use Rattle.source_text.specs.Shown.{texts}
use Rattle.state_tables.specs.Settings.{IsTakeOf}
use Rattle.state_tables.proofs.Takes.{SoFar}
use Rattle.state_tables.proofs.read.takes.read_takes.Given as goal

abbrev pub invariant-loop-entry : goal.invariant-loop-entry
invariant-loop-entry l =
    SoFar (texts l.names) l.entries (drop l.entry-index l.entries) l.takes.items l.first × All (IsTakeOf (length l.names)) l.takes.items
