use Rattle.std.proofs.Common.{ℕ, sym, subst, arith}
use Rattle.cell_engine.specs.Known.{IsOwn}
use Rattle.cell_engine.proofs.memo.own_place.Goals as goal

pub returns-then-is_own : goal.returns-then-is_own
returns-then-is_own c =
    subst (λ (n : ℕ). IsOwn c.args.offsets.now n) (sym c.short.ensures) (record { within = omega arith; here = c.is_own.ensures c.if-is_own.true })
