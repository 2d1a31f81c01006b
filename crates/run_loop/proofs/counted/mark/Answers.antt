use Rattle.std.proofs.Common.{◌∙◌, ap, set, arith}
use Rattle.quantity.specs.Arithmetic.{same_value}
use Rattle.rule_tree.specs.Meaning.{whole}
use Rattle.run_loop.proofs.Counting.{marked_next, marked_all}
use Rattle.run_loop.proofs.counted.mark.Goals as goal

pub loop-one-preserved : goal.loop-one-preserved
loop-one-preserved c =
    marked_next c.args.given.now c.loop-one.one-index c.one-item.result c.loop-one.ones.items _ _ c.loop-one-test.true c.one-item.is
    (c.mark_one.ensures ∙ ap (set c.loop-one.ones.items c.one-item.result.leaf) (c.is_one.ensures ∙ ap (λ value. same_value value (whole 1)) c.get.ensures))
    c.loop-one.invariant

pub returns : goal.returns
returns c = marked_all c.args.given.now c.loop-one.one-index c.loop-one.ones.items _ (omega arith) c.loop-one.invariant
