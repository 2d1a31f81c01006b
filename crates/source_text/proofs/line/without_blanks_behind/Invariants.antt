use Rattle.std.proofs.Common.{◌≡◌, length, reverse}
use Rattle.quantity.specs.Bytes.{without_blanks_before}
use Rattle.source_text.proofs.line.without_blanks_behind.Given as goal

abbrev pub invariant-loop-front : goal.invariant-loop-front
invariant-loop-front l = reverse (without_blanks_before (reverse l.front)) ≡ reverse (without_blanks_before (reverse l.text))

abbrev pub decreases-loop-front : goal.decreases-loop-front
decreases-loop-front l = length l.front
