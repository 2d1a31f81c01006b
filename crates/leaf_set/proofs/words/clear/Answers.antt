use Rattle.leaf_set.proofs.WordBits.{cleared-bit}
use Rattle.leaf_set.proofs.words.clear.Goals as goal

pub returns : goal.returns
returns c = cleared-bit c.args.words.now c.args.at c.requires
