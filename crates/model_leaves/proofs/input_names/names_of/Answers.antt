use Rattle.std.proofs.Common.{arith}
use Rattle.model_tree.proofs.Listed.{written-all}
use Rattle.model_leaves.proofs.input_names.names_of.Goals as goal

pub returns : goal.returns
returns c = written-all (λ text. text.now) c.args.texts.now c.loop-text.names.items c.loop-text.text-index (omega arith) c.loop-text.invariant
