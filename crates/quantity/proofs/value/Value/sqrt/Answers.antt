use Rattle.std.proofs.Common.{◌≡◌, ◌≤ℤ◌, pos, unsigned_abs, arith, rules, sym, ap, ◌∙◌}
use Rattle.std.proofs.lemmas.Int.{ints}
use Rattle.quantity.specs.Arithmetic.{root_of}
use Rattle.quantity.proofs.Roots.{raw_root-at}
use Rattle.quantity.proofs.value.Value.sqrt.Goals as goal

pub returns-clause-computed : goal.returns-clause-computed
returns-clause-computed c =
    let above : pos 0 ≤ℤ c.in-Num.a = omega (arith, ints) in
    let size : c.unsigned_abs.result ≡ unsigned_abs c.in-Num.a = search rules in
    let root : c.within.result ≡ pos c.root.result = omega (arith, ints) in
    raw_root-at c.in-Num.a c.within.result c.unsigned_abs.result c.root.result above size c.root.ensures.computed root ∙ ap root_of (sym c.in-Num.is)
