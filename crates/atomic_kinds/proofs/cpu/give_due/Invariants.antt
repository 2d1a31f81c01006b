use Rattle.std.proofs.Common.{◌≡◌, true, ◌-◌, ◌++◌, length, take, drop}
use Rattle.atomic_kinds.specs.Pairs.{given_at, rises_from}
use Rattle.atomic_kinds.proofs.cpu.give_due.Given as goal

abbrev pub invariant-loop-given : goal.invariant-loop-given
invariant-loop-given l =
    (l.into.items ++ given_at l.due (drop l.place l.pairs.items) ≡ l.initial.into.items ++ given_at l.due l.pairs.items)
    × (rises_from l.due (drop l.place l.pairs.items) ≡ true)
    × (take l.len l.into.items ≡ l.initial.into.items)

abbrev pub decreases-loop-given : goal.decreases-loop-given
decreases-loop-given l = length l.pairs.items - l.place
