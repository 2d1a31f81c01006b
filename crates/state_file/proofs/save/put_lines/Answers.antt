use Rattle.std.proofs.Common.{◌≡◌, ◌<◌, ◌≤◌, length, arith}
use Rattle.model_tree.specs.Tree.{leaf_count}
use Rattle.model_leaves.specs.Models.{tree_of}
use Rattle.model_leaves.specs.Leaves.{no_settings}
use Rattle.run_leaves.specs.Seated.{settings_at}
use Rattle.state_lines.proofs.Appended.{kept_on, none_yet, keeps_itself}
use Rattle.state_file.proofs.Lines.{one_more, all_lines, as_many, counted}
use Rattle.state_file.proofs.save.put_lines.Goals as goal

pub loop-leaf-preserved : goal.loop-leaf-preserved
loop-leaf-preserved g c =
    let m = c.args.run.now.model in
    let st = settings_at c.args.run.now.settings in
    let count : c.leaves-leaf-end.result ≡ leaf_count (tree_of m no_settings) =
    counted m c.model.result.now no_settings c.leaves-leaf-end.result c.model.ensures
    c.leaves-leaf-end.ensures in
    let there : c.loop-leaf.leaf < leaf_count (tree_of m no_settings) =
    omega (arith, count, c.loop-leaf-test.true) in
    record {
      appended = one_more m st c.args.run.now.state.leaf_states c.loop-leaf.leaf
          c.args.into.now.items c.loop-leaf.into.items c.put_line.new.into.items c.requires.fits
          there c.loop-leaf.invariant.appended c.in_ok-put_line.ensures.ok;
      kept = kept_on c.args.into.now.items c.loop-leaf.into.items c.put_line.new.into.items
          c.loop-leaf.invariant.kept c.in_ok-put_line.ensures.kept;
      steps = omega (arith, c.loop-leaf.invariant.steps, c.in_ok-put_line.ensures.visits);
    }

pub returns-in_err-put_line-clause-visits : goal.returns-in_err-put_line-clause-visits
returns-in_err-put_line-clause-visits g c =
    let m = c.args.run.now.model in
    let st = settings_at c.args.run.now.settings in
    let count : c.leaves-leaf-end.result ≡ leaf_count (tree_of m st) =
    counted m c.model.result.now st c.leaves-leaf-end.result c.model.ensures
    c.leaves-leaf-end.ensures in
    let long : length c.args.run.now.state.leaf_states ≡ leaf_count (tree_of m st) =
    as_many m st c.args.run.now.state.leaf_states c.requires.fits in
    omega (
      arith,
      count,
      long,
      c.loop-leaf-test.true,
      c.loop-leaf.invariant.steps,
      c.put_line.ensures.visits,
    )

pub returns-clause-ok : goal.returns-clause-ok
returns-clause-ok g c =
    let m = c.args.run.now.model in
    let st = settings_at c.args.run.now.settings in
    let count : c.leaves-leaf-end.result ≡ leaf_count (tree_of m st) =
    counted m c.model.result.now st c.leaves-leaf-end.result c.model.ensures
    c.leaves-leaf-end.ensures in
    let past : leaf_count (tree_of m st) ≤ c.loop-leaf.leaf =
    omega (arith, count, c.loop-leaf-test.false) in
    all_lines m st c.args.run.now.state.leaf_states c.loop-leaf.leaf c.args.into.now.items
    c.loop-leaf.into.items past c.loop-leaf.invariant.appended

pub returns-clause-visits : goal.returns-clause-visits
returns-clause-visits g c =
    let m = c.args.run.now.model in
    let st = settings_at c.args.run.now.settings in
    let count : c.leaves-leaf-end.result ≡ leaf_count (tree_of m st) =
    counted m c.model.result.now st c.leaves-leaf-end.result c.model.ensures
    c.leaves-leaf-end.ensures in
    let long : length c.args.run.now.state.leaf_states ≡ leaf_count (tree_of m st) =
    as_many m st c.args.run.now.state.leaf_states c.requires.fits in
    omega (arith, count, long, c.loop-leaf.auto.leaf-end, c.loop-leaf.invariant.steps)

pub loop-leaf-init : goal.loop-leaf-init
loop-leaf-init g c =
    let old = c.args.into.now.items in
    record { appended = none_yet old; kept = keeps_itself old; steps = omega arith }

pub returns-in_err-put_line-clause-kept : goal.returns-in_err-put_line-clause-kept
returns-in_err-put_line-clause-kept g c =
    kept_on c.args.into.now.items c.loop-leaf.into.items c.put_line.new.into.items c.loop-leaf.invariant.kept c.put_line.ensures.kept
