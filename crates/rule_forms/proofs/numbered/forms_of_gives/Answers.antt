use Rattle.std.proofs.Common.{◌++◌, List, [], ◌∷◌, map, ap, ◌∙◌}
use Rattle.std.proofs.lemmas.List.{take_all}
use Rattle.rule_tree.specs.declared.node.Give.{Give}
use Rattle.rule_tree.specs.Expression.{Expr}
use Rattle.rule_forms.specs.Numbered.{numbered_expression}
use Rattle.rule_forms.proofs.Deepest.{give_pair, pair_more}
use Rattle.rule_forms.proofs.numbered.forms_of_gives.Goals as goal

pub loop-give-init : goal.loop-give-init
loop-give-init c = ap (map numbered_expression) c.new-forms.ensures.items

pub loop-give-preserved : goal.loop-give-preserved
loop-give-preserved c =
    pair_more give_pair c.args.gives.now c.loop-give.give-index c.give-item.result (map numbered_expression c.loop-give.forms.items) (map numbered_expression c.add.new.forms.items)
    c.loop-give-test.true c.give-item.is c.loop-give.invariant
    (c.in_ok-add.ensures ∙ ap (λ (e : Expr). map numbered_expression c.loop-give.forms.items ++ (c.give-item.result.port, e) ∷ []) c.in_ok-form.ensures)

pub returns : goal.returns
returns c = c.loop-give.invariant ∙ ap (λ (xs : List Give). map give_pair xs) (take_all c.loop-give.give-index c.args.gives.now c.loop-give-test.false)
