use Rattle.std.proofs.Common.{arith}
use Rattle.model_tree.proofs.Listed.{copied-more, copied-all}
use Rattle.model_tree.proofs.copies.put_copies.Goals as goal

pub loop-name-preserved : goal.loop-name-preserved
loop-name-preserved c =
    copied-more c.args.names.now c.args.into.now.items c.loop-name.into.items c.put_copy.new.into.items c.loop-name.name-index c.name-item.result (omega arith) c.name-item.is c.loop-name.invariant
    c.in_ok-put_copy.ensures

pub returns : goal.returns
returns c = copied-all c.args.names.now c.args.into.now.items c.loop-name.into.items c.loop-name.name-index (omega arith) c.loop-name.invariant
