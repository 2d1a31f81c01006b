use Rattle.std.proofs.Common.{◌≡◌, ◌<◌, ◌^◌, ◌++◌, take, replicate}
use Rattle.quantity.specs.Digits.{number_in}
use Rattle.state_lines.proofs.literal.hundred_thousandths.Given as goal

abbrev pub invariant-loop-place : goal.invariant-loop-place
invariant-loop-place l = (l.number ≡ number_in (take l.place (l.decimals ++ replicate 5 48)))
    × (l.number < 10 ^ l.place)
