use Rattle.std.proofs.Common.{◌++◌, List, [], ◌∷◌, map, ap, ◌∙◌}
use Rattle.std.proofs.lemmas.List.{take_all}
use Rattle.rule_tree.specs.declared.node.SetVariable.{SetVariable}
use Rattle.rule_tree.specs.Expression.{Expr}
use Rattle.rule_forms.specs.Numbered.{numbered_expression}
use Rattle.rule_forms.proofs.Deepest.{set_pair, pair_more}
use Rattle.rule_forms.proofs.numbered.forms_of_sets.Goals as goal

pub loop-set-init : goal.loop-set-init
loop-set-init c = ap (map numbered_expression) c.new-forms.ensures.items

pub loop-set-preserved : goal.loop-set-preserved
loop-set-preserved c =
    pair_more set_pair c.args.sets.now c.loop-set.set-index c.set-item.result (map numbered_expression c.loop-set.forms.items) (map numbered_expression c.add.new.forms.items)
    c.loop-set-test.true c.set-item.is c.loop-set.invariant
    (c.in_ok-add.ensures ∙ ap (λ (e : Expr). map numbered_expression c.loop-set.forms.items ++ (c.set-item.result.variable, e) ∷ []) c.in_ok-form.ensures)

pub returns : goal.returns
returns c = c.loop-set.invariant ∙ ap (λ (xs : List SetVariable). map set_pair xs) (take_all c.loop-set.set-index c.args.sets.now c.loop-set-test.false)
