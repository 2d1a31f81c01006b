use Rattle.std.proofs.Common.{◌≡◌, map, take}
use Rattle.rule_tree.specs.InCode.{expr_of}
use Rattle.rule_tree.specs.declared.node.SetVariable.{SetVariable}
use Rattle.rule_forms.specs.Numbered.{numbered_expression}
use Rattle.rule_forms.proofs.numbered.forms_of_sets.Given as goal

abbrev pub invariant-loop-set : goal.invariant-loop-set
invariant-loop-set l = map numbered_expression l.forms.items ≡ map (λ (x : SetVariable). (x.variable, expr_of x.value)) (take l.set-index l.sets)
