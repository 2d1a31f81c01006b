use Rattle.std.proofs.Common.{◌+◌, ◌*◌, ◌<◌, ◌≤◌, ◌∙◌, [], ◌++◌, length, length-set, refl, arith}
use Rattle.leaf_set.specs.Words.{has, those_from}
use Rattle.leaf_set.proofs.TakenWords.{all-start, all-marked, all-next, all-end, all-unmarked}
use Rattle.leaf_set.proofs.words.clear_marked.Goals as goal

pub loop-block-init : goal.loop-block-init
loop-block-init c = record {
  cleared = ([], all-start c.args.words.now c.args.marks.now [] (64 * length c.args.words.now) c.requires.marked);
  same = refl;
  wide = refl;
  end = refl;
}

pub clear_block-requires-clause-marked : goal.clear_block-requires-clause-marked
clear_block-requires-clause-marked c =
    all-marked c.args.words.now c.loop-block.words c.loop-block.marks [] c.loop-block.invariant.cleared.0 c.loop-block.block (64 * length c.args.words.now) c.loop-block.invariant.cleared.1

pub loop-block-preserved : goal.loop-block-preserved
loop-block-preserved c =
    let within : c.loop-block.block < length c.loop-block.marks = omega (arith, c.loop-block-test.true, c.loop-block.invariant.wide) in
    let inside : 4096 * c.loop-block.block + 4096 ≤ 64 * length c.args.words.now = omega (arith, c.loop-block-test.true, c.requires.whole) in
    let items = c.loop-block.invariant.cleared.0 in
    let more = items ++ those_from (has c.loop-block.words) (4096 * c.loop-block.block) 4096 in
    record {
      cleared = (
        more,
        all-next c.args.words.now c.loop-block.words c.loop-block.marks [] items c.clear_block.new.words more c.loop-block.block (64 * length c.args.words.now) c.loop-block.invariant.cleared.1 within inside c.clear_block.ensures refl,
      );
      same = c.clear_block.auto.words ∙ c.loop-block.invariant.same;
      wide = length-set c.loop-block.marks c.loop-block.block 0 ∙ c.loop-block.invariant.wide;
      end = refl;
    }

pub returns-clause-left : goal.returns-clause-left
returns-clause-left c =
    (all-end c.args.words.now c.loop-block.words c.loop-block.marks [] c.loop-block.invariant.cleared.0 c.loop-block.block (64 * length c.args.words.now) c.loop-block.invariant.cleared.1 (omega (arith, c.loop-block-test.false, c.requires.whole)) (omega (arith, c.loop-block.invariant.same))).1

pub returns-clause-unmarked : goal.returns-clause-unmarked
returns-clause-unmarked c =
    all-unmarked c.args.words.now c.loop-block.words c.loop-block.marks [] c.loop-block.invariant.cleared.0 c.loop-block.block (64 * length c.args.words.now) c.loop-block.invariant.cleared.1 (omega (arith, c.loop-block-test.false, c.loop-block.invariant.wide))
