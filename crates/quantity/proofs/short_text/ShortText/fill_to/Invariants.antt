use Rattle.std.proofs.Common.{◌≡◌, ◌-◌, ◌≤◌, ◌++◌, length, max, replicate}
use Rattle.quantity.proofs.short_text.ShortText.fill_to.Given as goal

abbrev pub invariant-loop-place : goal.invariant-loop-place
invariant-loop-place l =
    (l.self ≡ replicate (l._place - length l.initial.self) 32 ++ l.initial.self)
    × (length l.self ≡ l._place)
    × (l._place ≤ max l.width (length l.initial.self))
