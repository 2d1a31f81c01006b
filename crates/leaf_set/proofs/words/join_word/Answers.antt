use Rattle.leaf_set.proofs.WordBits.{joined-grows, joined-there}
use Rattle.leaf_set.proofs.words.join_word.Goals as goal

pub returns-clause-grows : goal.returns-clause-grows
returns-clause-grows c = joined-grows c.args.words.now c.args.more.now c.args.at c.requires.within

pub returns-clause-joined : goal.returns-clause-joined
returns-clause-joined c = joined-there c.args.words.now c.args.more.now c.args.at c.requires.within
