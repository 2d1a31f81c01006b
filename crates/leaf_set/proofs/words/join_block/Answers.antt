use Rattle.std.proofs.Common.{◌∙◌, refl}
use Rattle.leaf_set.proofs.Joined.{grows-none, grows-on, none-joined, one-joined, all-joined}
use Rattle.leaf_set.proofs.words.join_block.Goals as goal

pub marks-init : goal.marks-init
marks-init c = record {
  grows = grows-none c.args.words.now c.args.more.now;
  joined = none-joined c.args.more.now c.args.words.now c.args.block c.args.marks c.requires.marked;
  same = refl;
}

pub marks-preserved : goal.marks-preserved
marks-preserved c = record {
  grows = grows-on c.args.words.now c.marks.words c.join_word.new.words c.args.more.now c.marks.invariant.grows c.join_word.ensures.grows;
  joined =
      one-joined c.args.words.now c.args.more.now c.marks.words c.join_word.new.words c.args.block c.marks.left c.take_lowest-bit.new.word c.take_lowest-bit.result c.marks.invariant.joined c.take_lowest-bit.ensures c.join_word.ensures.grows c.join_word.ensures.joined;
  same = c.join_word.auto.words ∙ c.marks.invariant.same;
}

pub returns-clause-grows : goal.returns-clause-grows
returns-clause-grows c = c.marks.invariant.grows

pub returns-clause-joined : goal.returns-clause-joined
returns-clause-joined c = all-joined c.args.more.now c.marks.words c.args.block c.marks.left c.marks.invariant.joined c.marks-test.false
