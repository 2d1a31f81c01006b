use Rattle.std.proofs.Common.{◌≡◌, List, max, subst, arith, rules}
use Rattle.std.specs.List.{All}
use Rattle.std.proofs.lemmas.List.{take_all}
use Rattle.std.proofs.lemmas.List.Elements.{All-map}
use Rattle.rule_tree.specs.Expression.{Rule}
use Rattle.cell_engine.proofs.Made.{NeedsAtMost, sets_need_more}
use Rattle.cell_engine.proofs.make.deepest_of_sets.Goals as goal

pub loop-rules-preserved : goal.loop-rules-preserved
loop-rules-preserved c =
    let most : c.max-most.result ≡ max c.loop-rules.most c.deepest.result = search rules in
    let own = subst (λ (rules : List Rule). NeedsAtMost c.deepest.result rules) c.deref.ensures.value c.deepest.ensures in
    sets_need_more (λ set. set.items) c.args.sets.now c.loop-rules.rules-index c.rules-item.result c.loop-rules.most c.max-most.result c.deepest.result c.loop-rules-test.true c.rules-item.is c.loop-rules.invariant (omega (arith, most)) own (omega (arith, most))

pub returns : goal.returns
returns c =
    All-map (NeedsAtMost c.loop-rules.most) (λ set. set.items) c.args.sets.now
    (subst (λ sets. All (λ set. NeedsAtMost c.loop-rules.most set.items) sets) (take_all c.loop-rules.rules-index c.args.sets.now c.loop-rules-test.false) c.loop-rules.invariant)
