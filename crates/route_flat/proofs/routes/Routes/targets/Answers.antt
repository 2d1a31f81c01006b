use Rattle.std.proofs.Common.{rules, ◌≡◌, map, ap, ◌∙◌, List}
use Rattle.model_leaves.specs.declared.path.Target.{Target}
use Rattle.route_flat.specs.Ways.{ways_of, targets_among}
use Rattle.route_flat.proofs.Numbered.{numbers-of}
use Rattle.route_flat.proofs.routes.Routes.targets.Goals as goal

pub returns-clause-numbers : goal.returns-clause-numbers
returns-clause-numbers c =
    let same : c.targets.result.now ≡ targets_among (ways_of c.args.self.now) c.args.from = search rules in
    ap (λ (ts : List Target). map (λ (t : Target). t.path) ts) same ∙ numbers-of (ways_of c.args.self.now) c.args.from
