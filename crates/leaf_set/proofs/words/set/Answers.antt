use Rattle.leaf_set.proofs.WordBits.{set-bit}
use Rattle.leaf_set.proofs.words.set.Goals as goal

pub returns : goal.returns
returns c = set-bit c.args.words.now c.args.at c.requires
