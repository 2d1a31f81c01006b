use Rattle.std.proofs.Common.{◌+◌, ◌*◌, ◌<◌, ◌≤◌, ◌∙◌, length, length-append, length-set, refl, ap, arith}
use Rattle.leaf_set.specs.Words.{has, those_from}
use Rattle.leaf_set.proofs.ThoseFrom.{those-part}
use Rattle.leaf_set.proofs.TakenWords.{all-start, all-marked, all-next, all-end, all-unmarked}
use Rattle.leaf_set.proofs.words.take_marked.Goals as goal

pub loop-block-init : goal.loop-block-init
loop-block-init c = record {
  taken = all-start c.args.words.now c.args.marks.now c.args.into.now.items (64 * length c.args.words.now) c.requires.marked;
  same = refl;
  wide = refl;
  end = refl;
  capacity = refl;
}

pub take_block-requires-clause-marked : goal.take_block-requires-clause-marked
take_block-requires-clause-marked c =
    all-marked c.args.words.now c.loop-block.words c.loop-block.marks c.args.into.now.items c.loop-block.into.items c.loop-block.block (64 * length c.args.words.now) c.loop-block.invariant.taken

pub take_block-requires-clause-room : goal.take_block-requires-clause-room
take_block-requires-clause-room c =
    let inside : 4096 * c.loop-block.block + 4096 ≤ 64 * length c.args.words.now = omega (arith, c.loop-block-test.true, c.requires.whole) in
    let part = those-part (has c.loop-block.words) 0 (64 * length c.args.words.now) (4096 * c.loop-block.block) 4096 (omega arith) (omega (arith, inside)) in
    omega (arith, part, ap length c.loop-block.invariant.taken.taken, length-append c.loop-block.into.items (those_from (has c.loop-block.words) 0 (64 * length c.args.words.now)), length-append c.args.into.now.items (those_from (has c.args.words.now) 0 (64 * length c.args.words.now)), c.requires.room, c.loop-block.invariant.capacity, c.loop-block.into.ok.0, c.args.into.now.ok.0)

pub loop-block-preserved : goal.loop-block-preserved
loop-block-preserved c =
    let within : c.loop-block.block < length c.loop-block.marks = omega (arith, c.loop-block-test.true, c.loop-block.invariant.wide) in
    let inside : 4096 * c.loop-block.block + 4096 ≤ 64 * length c.args.words.now = omega (arith, c.loop-block-test.true, c.requires.whole) in
    record {
      taken =
          all-next c.args.words.now c.loop-block.words c.loop-block.marks c.args.into.now.items c.loop-block.into.items c.take_block.new.words c.take_block.new.into.items c.loop-block.block (64 * length c.args.words.now) c.loop-block.invariant.taken within inside c.take_block.ensures.left c.take_block.ensures.taken;
      same = c.take_block.auto.words ∙ c.loop-block.invariant.same;
      wide = length-set c.loop-block.marks c.loop-block.block 0 ∙ c.loop-block.invariant.wide;
      end = refl;
      capacity = c.take_block.ensures.capacity ∙ c.loop-block.invariant.capacity;
    }

pub returns-clause-taken : goal.returns-clause-taken
returns-clause-taken c =
    (all-end c.args.words.now c.loop-block.words c.loop-block.marks c.args.into.now.items c.loop-block.into.items c.loop-block.block (64 * length c.args.words.now) c.loop-block.invariant.taken (omega (arith, c.loop-block-test.false, c.requires.whole)) (omega (arith, c.loop-block.invariant.same))).0

pub returns-clause-left : goal.returns-clause-left
returns-clause-left c =
    (all-end c.args.words.now c.loop-block.words c.loop-block.marks c.args.into.now.items c.loop-block.into.items c.loop-block.block (64 * length c.args.words.now) c.loop-block.invariant.taken (omega (arith, c.loop-block-test.false, c.requires.whole)) (omega (arith, c.loop-block.invariant.same))).1

pub returns-clause-unmarked : goal.returns-clause-unmarked
returns-clause-unmarked c =
    all-unmarked c.args.words.now c.loop-block.words c.loop-block.marks c.args.into.now.items c.loop-block.into.items c.loop-block.block (64 * length c.args.words.now) c.loop-block.invariant.taken (omega (arith, c.loop-block-test.false, c.loop-block.invariant.wide))
