use Rattle.std.proofs.Common.{◌∙◌, map, ap}
use Rattle.std.proofs.lemmas.List.{take_all}
use Rattle.rule_tree.specs.InCode.{rule_of}
use Rattle.cell_engine.proofs.Grown.{one_more}
use Rattle.cell_engine.proofs.make.codes_of_sets.Goals as goal

pub loop-rules-preserved : goal.loop-rules-preserved
loop-rules-preserved c =
    let own = c.in_ok-made.ensures ∙ ap (map rule_of) c.deref.ensures.value in
    c.in_ok-add_set.ensures
    ∙ one_more (λ rules. map rule_of rules.items) c.args.sets.now c.loop-rules.rules-index c.rules-item.result (map (λ rules. rules.items) c.loop-rules.codes.items) c.in_ok-made.made.items c.loop-rules-test.true c.rules-item.is c.loop-rules.invariant own

pub returns : goal.returns
returns c =
    c.loop-rules.invariant ∙ ap (λ sets. map (λ rules. map rule_of rules.items) sets) (take_all c.loop-rules.rules-index c.args.sets.now c.loop-rules-test.false)
