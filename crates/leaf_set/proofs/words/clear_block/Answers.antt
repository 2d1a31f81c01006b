use Rattle.std.proofs.Common.{◌+◌, ◌*◌, ◌∙◌, [], ◌++◌, ℕ, refl, subst}
use Rattle.leaf_set.specs.Words.{has, those_from}
use Rattle.leaf_set.proofs.TakenWords.{BlockIsTaken, block-start, block-next, block-end}
use Rattle.leaf_set.proofs.words.clear_block.Goals as goal

pub marks-init : goal.marks-init
marks-init c = record {
  cleared = ([], block-start c.args.words.now [] c.args.block c.args.marks c.requires.marked);
  same = refl;
}

pub marks-preserved : goal.marks-preserved
marks-preserved c =
    let items = c.marks.invariant.cleared.0 in
    let more = items ++ those_from (has c.marks.words) (64 * (64 * c.args.block + c.take_lowest-bit.result)) 64 in
    record {
      cleared = (
        more,
        block-next c.args.words.now c.marks.words [] items c.clear_word.new.words more c.args.block c.marks.left c.take_lowest-bit.new.word c.take_lowest-bit.result c.marks.invariant.cleared.1 c.take_lowest-bit.ensures c.clear_word.ensures refl,
      );
      same = c.clear_word.auto.words ∙ c.marks.invariant.same;
    }

pub returns : goal.returns
returns c =
    let items = c.marks.invariant.cleared.0 in
    (block-end c.args.words.now c.marks.words [] items c.args.block (subst (λ (left : ℕ). BlockIsTaken c.args.words.now c.marks.words [] items c.args.block left) c.marks-test.false c.marks.invariant.cleared.1)).1
