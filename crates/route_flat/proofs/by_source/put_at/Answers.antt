use Rattle.std.proofs.Common.{rules, ◌≡◌, ap, ◌∙◌, List, [], ◌∷◌, ◌++◌, get_or}
use Rattle.std.specs.Prelude.{◌==◌, if◌then◌else◌}
use Rattle.std.proofs.lemmas.Result.{on_ok_weaker}
use Rattle.model_leaves.specs.declared.path.Target.{Target}
use Rattle.route_flat.proofs.Steps.{one-more}
use Rattle.route_flat.proofs.by_source.put_at.Goals as goal

pub returns : goal.returns
returns c =
    let here : c.index_mut.result.now ≡ get_or c.reach.new.lists.items c.args.number c.index_mut.result.now = search rules in
    on_ok_weaker c.push.result
    (λ h k. one-more (λ v. v.items) c.reach.new.lists.items c.args.number c.index_mut.result.now c.push.new.list c.args.target k c.in_ok-reach.ensures.reached here h
    ∙ ap (λ (l : List Target). if k == c.args.number then l ++ c.args.target ∷ [] else l) (c.reach.ensures.same k))
    c.push.ensures
