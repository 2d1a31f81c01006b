use Rattle.std.proofs.Common.{◌≡◌, ◌+◌, ◌≤◌, take}
use Rattle.ma_lines.specs.Entries.{braces_after}
use Rattle.ma_lines.proofs.parts.braces_after.Given as goal

abbrev pub invariant-loop-byte : goal.invariant-loop-byte
invariant-loop-byte l = record { value : l.braces ≡ braces_after l.before (take l.byte-index l.text); bound : l.braces ≤ l.before + l.byte-index }
