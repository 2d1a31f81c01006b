use Rattle.std.proofs.Common.{lit≤, pos, refl}
use Rattle.quantity.proofs.Wide.{product_fits, quotient_cut, widened}
use Rattle.quantity.proofs.value.cut_quotient.Goals as goal

pub overflow_mul-result : goal.overflow_mul-result
overflow_mul-result c =
    product_fits c.args.a (pos 100000) _ _ c.requires.bounded (lit≤ tt)
    (widened c.args.a c.from.result c.requires.bounded c.from.ensures) refl

pub returns : goal.returns
returns c =
    quotient_cut c.args.a c.args.b _ c.from-2.result c.requires.bounded c.ranges.b
    (widened c.args.a c.from.result c.requires.bounded c.from.ensures) c.from-2.ensures
