use Rattle.std.proofs.Common.{rules}
use Rattle.leaf_set.proofs.WordBits.{lowest-taken}
use Rattle.leaf_set.proofs.words.take_lowest.Goals as goal

pub returns : goal.returns
returns c = lowest-taken c.args.word.now c.requires (search rules)
