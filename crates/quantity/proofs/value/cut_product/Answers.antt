use Rattle.quantity.proofs.Wide.{product_cut, product_fits, widened}
use Rattle.quantity.proofs.value.cut_product.Goals as goal

pub overflow_mul-result : goal.overflow_mul-result
overflow_mul-result c =
    product_fits c.args.a c.args.b _ _ c.requires.left c.requires.right
    (widened c.args.a c.from.result c.requires.left c.from.ensures)
    (widened c.args.b c.from-2.result c.requires.right c.from-2.ensures)

pub returns : goal.returns
returns c =
    product_cut c.args.a c.args.b _ _ c.requires.left c.requires.right
    (widened c.args.a c.from.result c.requires.left c.from.ensures)
    (widened c.args.b c.from-2.result c.requires.right c.from-2.ensures)
