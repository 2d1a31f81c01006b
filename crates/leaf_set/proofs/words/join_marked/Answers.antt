use Rattle.std.proofs.Common.{◌+◌, ◌*◌, ◌∙◌, refl, arith}
use Rattle.leaf_set.proofs.Joined.{grows-none, grows-on, unites, block-marked, run-joined}
use Rattle.leaf_set.proofs.words.join_marked.Goals as goal

pub loop-block-init : goal.loop-block-init
loop-block-init c = record {
  grows = grows-none c.args.words.now c.args.more.now;
  joined = λ i lt some. absurd (omega (arith, lt));
  marks_grow = grows-none c.args.marks.now c.args.more_marks.now;
  marks_joined = λ i lt some. absurd (omega (arith, lt));
  same = refl;
  wide = refl;
  end = refl;
}

pub join_block-requires-clause-marked : goal.join_block-requires-clause-marked
join_block-requires-clause-marked c = block-marked c.args.more.now c.args.more_marks.now c.loop-block.block c.requires.marked

pub loop-block-preserved : goal.loop-block-preserved
loop-block-preserved c =
    let k = c.loop-block.block in
    record {
      grows = grows-on c.args.words.now c.loop-block.words c.join_block.new.words c.args.more.now c.loop-block.invariant.grows c.join_block.ensures.grows;
      joined =
          run-joined c.args.more.now c.loop-block.words c.join_block.new.words (4096 * k) (4096 * (k + 1)) c.loop-block.invariant.joined c.join_block.ensures.grows
          (λ i low high some. c.join_block.ensures.joined i low (omega (arith, high)) some);
      marks_grow = grows-on c.args.marks.now c.loop-block.marks c.join_word.new.words c.args.more_marks.now c.loop-block.invariant.marks_grow c.join_word.ensures.grows;
      marks_joined =
          run-joined c.args.more_marks.now c.loop-block.marks c.join_word.new.words (64 * k) (64 * (k + 1)) c.loop-block.invariant.marks_joined c.join_word.ensures.grows
          (λ i low high some. c.join_word.ensures.joined i (omega (arith, low, high)) some);
      same = c.join_block.auto.words ∙ c.loop-block.invariant.same;
      wide = c.join_word.auto.words ∙ c.loop-block.invariant.wide;
      end = c.loop-block.invariant.end;
    }

pub returns-clause-words : goal.returns-clause-words
returns-clause-words c =
    unites c.args.words.now c.args.more.now c.loop-block.words (4096 * c.loop-block.block) c.loop-block.invariant.grows c.loop-block.invariant.joined
    (omega (arith, c.loop-block-test.false, c.requires.whole, c.requires.as_many, c.loop-block.invariant.end))

pub returns-clause-marks : goal.returns-clause-marks
returns-clause-marks c =
    unites c.args.marks.now c.args.more_marks.now c.loop-block.marks (64 * c.loop-block.block) c.loop-block.invariant.marks_grow c.loop-block.invariant.marks_joined
    (omega (arith, c.loop-block-test.false, c.requires.as_many_marks, c.loop-block.invariant.end))
