use Rattle.leaf_set.proofs.WordBits.{tests}
use Rattle.leaf_set.proofs.words.is_set.Goals as goal

pub returns : goal.returns
returns c = tests c.args.words.now c.args.at
