use Rattle.std.proofs.Common.{◌∙◌, ◌++◌, length, ap, sym, arith}
use Rattle.leaf_set.proofs.WordBits.{ones-of-word, cleared-word}
use Rattle.leaf_set.proofs.words.take_word.Goals as goal

pub push_ones-requires-clause-room : goal.push_ones-requires-clause-room
push_ones-requires-clause-room c = omega (arith, ap length (ones-of-word c.args.words.now c.args.at), c.requires.room)

pub returns-clause-taken : goal.returns-clause-taken
returns-clause-taken c =
    c.push_ones.ensures.taken ∙ ap (λ ls. c.args.into.now.items ++ ls) (sym (ones-of-word c.args.words.now c.args.at))

pub returns-clause-left : goal.returns-clause-left
returns-clause-left c = cleared-word c.args.words.now c.args.at c.requires.within
