use Rattle.std.proofs.Common.{◌+◌, ◌*◌, ◌∙◌, length, length-append, refl, ap, subst, ℕ, arith}
use Rattle.leaf_set.specs.Words.{has, those_from}
use Rattle.leaf_set.proofs.ThoseFrom.{those-part}
use Rattle.leaf_set.proofs.TakenWords.{BlockIsTaken, block-start, block-next, block-end}
use Rattle.leaf_set.proofs.words.take_block.Goals as goal

pub marks-init : goal.marks-init
marks-init c = record {
  taken = block-start c.args.words.now c.args.into.now.items c.args.block c.args.marks c.requires.marked;
  same = refl;
  capacity = refl;
}

pub take_word-requires-clause-room : goal.take_word-requires-clause-room
take_word-requires-clause-room c =
    let small = c.take_lowest-bit.ensures.within in
    let part = those-part (has c.marks.words) (4096 * c.args.block) 4096 (64 * (64 * c.args.block + c.take_lowest-bit.result)) 64 (omega arith) (omega arith) in
    omega (arith, part, ap length c.marks.invariant.taken.taken, length-append c.marks.into.items (those_from (has c.marks.words) (4096 * c.args.block) 4096), length-append c.args.into.now.items (those_from (has c.args.words.now) (4096 * c.args.block) 4096), c.requires.room, c.marks.invariant.capacity, c.marks.into.ok.0, c.args.into.now.ok.0)

pub marks-preserved : goal.marks-preserved
marks-preserved c = record {
  taken =
      block-next c.args.words.now c.marks.words c.args.into.now.items c.marks.into.items c.take_word.new.words c.take_word.new.into.items c.args.block c.marks.left c.take_lowest-bit.new.word c.take_lowest-bit.result c.marks.invariant.taken c.take_lowest-bit.ensures c.take_word.ensures.left c.take_word.ensures.taken;
  same = c.take_word.auto.words ∙ c.marks.invariant.same;
  capacity = c.take_word.ensures.capacity ∙ c.marks.invariant.capacity;
}

pub returns-clause-taken : goal.returns-clause-taken
returns-clause-taken c =
    (block-end c.args.words.now c.marks.words c.args.into.now.items c.marks.into.items c.args.block (subst (λ (left : ℕ). BlockIsTaken c.args.words.now c.marks.words c.args.into.now.items c.marks.into.items c.args.block left) c.marks-test.false c.marks.invariant.taken)).0

pub returns-clause-left : goal.returns-clause-left
returns-clause-left c =
    (block-end c.args.words.now c.marks.words c.args.into.now.items c.marks.into.items c.args.block (subst (λ (left : ℕ). BlockIsTaken c.args.words.now c.marks.words c.args.into.now.items c.marks.into.items c.args.block left) c.marks-test.false c.marks.invariant.taken)).1
