use Rattle.leaf_set.proofs.WordBits.{cleared-word}
use Rattle.leaf_set.proofs.words.clear_word.Goals as goal

pub returns : goal.returns
returns c = cleared-word c.args.words.now c.args.at c.requires
