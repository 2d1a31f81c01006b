use Rattle.std.proofs.Common.{◌++◌, ◌∙◌, ℕ, List, map, refl, ap}
use Rattle.model_leaves.specs.declared.path.Path.{Path}
use Rattle.text_forms.specs.Held.{x_at, out_at}
use Rattle.cycle_steps.specs.Untimed.{y_records}
use Rattle.cycle_steps.specs.Routed.{values_at, path_at, fed_to, out_to, fed_in, out_in}
use Rattle.cycle_steps.proofs.Runs.{one-more}
use Rattle.cycle_steps.proofs.Growth.{grown-same, grown-after}
use Rattle.cycle_steps.proofs.OneMore.{appended-all}
use Rattle.cycle_steps.proofs.Stops.{stopped}
use Rattle.cycle_steps.proofs.feed.feed_all.Goals as goal

pub loop-k-preserved : goal.loop-k-preserved
loop-k-preserved g c =
    let ps = g.R.Routing.paths c.args.routes.now in
    let from = values_at (y_records c.args.y.now) c.args.inputs.now in
    let ks = c.args.numbers.now in
    record {
      x = one-more (x_at c.args.t) (λ k. fed_to (path_at ps k).to (from (path_at ps k).from)) ks c.loop-k.k-index _ c.loop-k.x.items c.append_path.new.x.items c.loop-k-test.true c.loop-k.invariant.x
          (c.in_ok-append_path.ensures.x ∙ ap (λ (p : Path). c.loop-k.x.items ++ map (x_at c.args.t) (fed_to p.to (from p.from))) c.path-path.ensures);
      out = one-more (out_at c.args.t) (λ k. out_to (path_at ps k).to (from (path_at ps k).from)) ks c.loop-k.k-index _ c.loop-k.out.items c.append_path.new.out.items c.loop-k-test.true c.loop-k.invariant.out
          (c.in_ok-append_path.ensures.out ∙ ap (λ (p : Path). c.loop-k.out.items ++ map (out_at c.args.t) (out_to p.to (from p.from))) c.path-path.ensures);
      x_grows = grown-after _ _ _ c.loop-k.invariant.x_grows c.append_path.ensures.x_grows;
      out_grows = grown-after _ _ _ c.loop-k.invariant.out_grows c.append_path.ensures.out_grows;
    }

pub loop-k-init : goal.loop-k-init
loop-k-init g c = record { x = refl; out = refl; x_grows = grown-same _ _ refl; out_grows = grown-same _ _ refl }

pub path-path-requires : goal.path-path-requires
path-path-requires g c = c.requires.within c.loop-k.k-index 0 c.loop-k-test.true

pub append_path-requires : goal.append_path-requires
append_path-requires g c = c.requires.rise

pub returns-in_err-append_path : goal.returns-in_err-append_path
returns-in_err-append_path g c =
    record {
      x = stopped _ c.from_residual.result c.from_residual.ensures.0;
      out = stopped _ c.from_residual.result c.from_residual.ensures.0;
      x_grows = grown-after _ _ _ c.loop-k.invariant.x_grows c.append_path.ensures.x_grows;
      out_grows = grown-after _ _ _ c.loop-k.invariant.out_grows c.append_path.ensures.out_grows;
    }

pub returns-clause-x : goal.returns-clause-x
returns-clause-x g c =
    let from = values_at (y_records c.args.y.now) c.args.inputs.now in
    appended-all (λ (ks : List ℕ). map (x_at c.args.t) (fed_in from (g.R.Routing.paths c.args.routes.now) ks)) refl
    c.args.numbers.now c.loop-k.k-index _ c.loop-k.x.items c.loop-k-test.false c.loop-k.invariant.x

pub returns-clause-out : goal.returns-clause-out
returns-clause-out g c =
    let from = values_at (y_records c.args.y.now) c.args.inputs.now in
    appended-all (λ (ks : List ℕ). map (out_at c.args.t) (out_in from (g.R.Routing.paths c.args.routes.now) ks)) refl
    c.args.numbers.now c.loop-k.k-index _ c.loop-k.out.items c.loop-k-test.false c.loop-k.invariant.out
