use Rattle.std.proofs.Common.{◌∙◌, ◌++◌, ◌<◌, List, ℕ, length, map, sym, subst}
use Rattle.std.specs.List.{All}
use Rattle.std.proofs.lemmas.Result.{on_ok_weaker}
use Rattle.text_forms.specs.Held.{x_at, out_at}
use Rattle.cycle_steps.specs.Untimed.{y_records}
use Rattle.cycle_steps.specs.Routed.{path_at, reaches, values_at, fed_in, out_in}
use Rattle.cycle_steps.proofs.Halves.{filtered-within}
use Rattle.cycle_steps.proofs.half.route.Goals as goal

pub feed-requires-clause-within : goal.feed-requires-clause-within
feed-requires-clause-within g c =
    let ps = g.R.Routing.paths c.args.routes.now in
    subst (λ (ks : List ℕ). All (λ k. k < length ps) ks) (sym (c.deref.ensures.value ∙ c.in_ok-reach.ensures.ok)) (filtered-within (λ k. reaches (y_records c.args.y.now) c.args.inputs.now (path_at ps k)) (length ps))

pub returns-clause-x : goal.returns-clause-x
returns-clause-x g c =
    on_ok_weaker c.feed.result (λ fed. fed ∙ (λ i. c.requires.x i ++ map (x_at c.args.t) (fed_in (values_at (y_records c.args.y.now) c.args.inputs.now) (g.R.Routing.paths c.args.routes.now) ((c.deref.ensures.value ∙ c.in_ok-reach.ensures.ok) i)))) c.feed.ensures.x

pub returns-clause-out : goal.returns-clause-out
returns-clause-out g c =
    on_ok_weaker c.feed.result (λ fed. fed ∙ (λ i. c.requires.out i ++ map (out_at c.args.t) (out_in (values_at (y_records c.args.y.now) c.args.inputs.now) (g.R.Routing.paths c.args.routes.now) ((c.deref.ensures.value ∙ c.in_ok-reach.ensures.ok) i)))) c.feed.ensures.out
