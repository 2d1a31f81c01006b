use Rattle.std.proofs.Common.{◌≡◌, length, drop}
use Rattle.std.specs.Prelude.{All, IfSome}
use Rattle.source_text.specs.Shown.{texts}
use Rattle.state_tables.specs.Settings.{IsHoldOf}
use Rattle.state_tables.proofs.Holds.{SoFar}
use Rattle.state_tables.proofs.read.holds.read_holds.Given as goal

abbrev pub invariant-loop-entry : goal.invariant-loop-entry
invariant-loop-entry l =
    (length l.holds.items ≡ length l.names) × SoFar (texts l.names) l.entries (drop l.entry-index l.entries) l.holds.items l.first × All (λ h. IfSome h (IsHoldOf (length l.names))) l.holds.items
