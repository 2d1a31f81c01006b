use Rattle.std.proofs.Common.{◌≡◌, List, length, ap, subst, arith}
use Rattle.quantity.specs.declared.place.Offset.{Offset}
use Rattle.cell_engine.specs.Known.{IsOwn}
use Rattle.cell_engine.proofs.memo.memo_of.Goals as goal

pub memo_by-requires : goal.memo_by-requires
memo_by-requires c = subst (λ (os : List Offset). IsOwn os c.in-Some.own) c.requires.offsets c.in-Some.ensures

pub returns-in-None : goal.returns-in-None
returns-in-None c =
    let none : length c.empty.result.known.items ≡ 0 = ap length c.empty.ensures in
    record { alike = λ some. absurd (omega (arith, some, none)); each = λ k d lt. absurd (omega (arith, lt, none)) }
