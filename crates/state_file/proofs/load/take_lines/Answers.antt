use Rattle.std.proofs.Common.{◌≡◌, ◌+◌, ◌<◌, None, Some, length, arith, ap, ◌∙◌}
use Rattle.model_leaves.specs.Models.{tree_of}
use Rattle.model_tree.specs.Tree.{leaf_count}
use Rattle.run_leaves.specs.Seated.{settings_at}
use Rattle.state_lines.specs.Parts.{ended_at, parts_of}
use Rattle.state_file.specs.Taken.{IsNext}
use Rattle.state_file.proofs.Lines.{counted}
use Rattle.state_file.proofs.Reading.{all_taken, at_here, can_take, here, is_leaf, none_read, not_next}
use Rattle.state_file.proofs.Reading.{one_more, same_tree}
use Rattle.state_file.proofs.load.take_lines.Goals as goal

pub loop-leaf-init : goal.loop-leaf-init
loop-leaf-init g c = record {
  read = none_read c.args.t c.args.text.now c.args.run.now;
  short = omega arith;
}

pub take_line-requires : goal.take_line-requires
take_line-requires g c =
    let s = c.args.run.now in
    let k = c.loop-leaf.leaf in
    let so = c.loop-leaf.invariant.read in
    let there = is_leaf s.model c.model.result.now c.leaves-count.result k c.model.ensures
    c.leaves-count.ensures c.loop-leaf-test.true in
    let x = here c.args.t c.args.text.now s k c.loop-leaf.run c.loop-leaf.left.now c.requires.fits
    there so in
    can_take c.args.t c.args.text.now s k c.loop-leaf.run c.loop-leaf.left.now c.args.sizes.now
    c.requires.fresh c.requires.sound there c.requires.sizes so x

pub returns-in_default : goal.returns-in_default
returns-in_default g c =
    let s = c.args.run.now in
    let n = c.loop-leaf.run in
    let m = c.take_line.new.run in
    let k = c.loop-leaf.leaf in
    let left = c.loop-leaf.left.now in
    let so = c.loop-leaf.invariant.read in
    let there = is_leaf s.model c.model.result.now c.leaves-count.result k c.model.ensures
    c.leaves-count.ensures c.loop-leaf-test.true in
    let x = here c.args.t c.args.text.now s k n left c.requires.fits there so in
    let next = rw c.in_default.is at c.in_ok-behind.ensures.read in
    not_next c.args.t c.args.text.now s k n m left so x
    (at_here s n k x (IsNext c.args.t k (parts_of left) n m None)
    (same_tree c.args.t c.args.text.now s k n left so) next)

pub loop-leaf-preserved : goal.loop-leaf-preserved
loop-leaf-preserved g c =
    let s = c.args.run.now in
    let n = c.loop-leaf.run in
    let m = c.take_line.new.run in
    let k = c.loop-leaf.leaf in
    let left = c.loop-leaf.left.now in
    let more = c.in-Some.behind.now in
    let so = c.loop-leaf.invariant.read in
    let there = is_leaf s.model c.model.result.now c.leaves-count.result k c.model.ensures
    c.leaves-count.ensures c.loop-leaf-test.true in
    let x = here c.args.t c.args.text.now s k n left c.requires.fits there so in
    let next = rw c.in-Some.is at c.in_ok-behind.ensures.read in
    let rest = rw c.in-Some.is at c.in_ok-behind.ensures.shorter in
    let shorter : length more < length left = rest in
    record {
      read = one_more c.args.t c.args.text.now s k n m left more so x
          (at_here s n k x (IsNext c.args.t k (parts_of left) n m (Some (parts_of more)))
          (same_tree c.args.t c.args.text.now s k n left so) next);
      short = omega (arith, shorter, c.loop-leaf.invariant.short);
    }

pub returns : goal.returns
returns g c =
    let s = c.args.run.now in
    let k = c.loop-leaf.leaf in
    let so = c.loop-leaf.invariant.read in
    let st = settings_at s.settings in
    let count : c.leaves-count.result ≡ leaf_count (tree_of s.model st) =
    counted s.model c.model.result.now st c.leaves-count.result c.model.ensures
    c.leaves-count.ensures in
    let last : k ≡ c.leaves-count.result =
    omega (arith, c.loop-leaf-test.false, c.loop-leaf.auto.leaf-end) in
    all_taken c.args.t c.args.text.now s k c.loop-leaf.run c.loop-leaf.left.now
    c.end_refused.result c.requires.fits so (last ∙ count)
    (ap (λ j. ended_at (j + 3) (parts_of c.loop-leaf.left.now)) last ∙ c.end_refused.ensures)
