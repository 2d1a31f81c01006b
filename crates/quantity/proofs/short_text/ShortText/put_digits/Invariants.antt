use Rattle.std.proofs.Common.{◌≡◌, ◌+◌, ◌-◌, ◌*◌, ◌++◌, length}
use Rattle.quantity.specs.Digits.{last_digits}
use Rattle.quantity.proofs.short_text.ShortText.put_digits.Given as goal

abbrev pub invariant-loop-pair : goal.invariant-loop-pair
invariant-loop-pair l =
    (length l.self ≡ l._pair * 2 + length l.initial.self)
    × (last_digits (l.count - l._pair * 2) l.left ++ l.self ≡ last_digits l.count l.number ++ l.initial.self)
