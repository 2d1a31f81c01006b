use Rattle.std.proofs.Common.{◌≡◌, ◌<◌, ◌^◌, take}
use Rattle.quantity.specs.Digits.{number_in}
use Rattle.state_lines.proofs.literal.number_in.Given as goal

abbrev pub invariant-loop-digit : goal.invariant-loop-digit
invariant-loop-digit l = (l.number ≡ number_in (take l.digit-index l.digits))
    × (l.number < 10 ^ l.digit-index)
