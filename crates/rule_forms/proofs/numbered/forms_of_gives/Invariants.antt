use Rattle.std.proofs.Common.{◌≡◌, map, take}
use Rattle.rule_tree.specs.InCode.{expr_of}
use Rattle.rule_tree.specs.declared.node.Give.{Give}
use Rattle.rule_forms.specs.Numbered.{numbered_expression}
use Rattle.rule_forms.proofs.numbered.forms_of_gives.Given as goal

abbrev pub invariant-loop-give : goal.invariant-loop-give
invariant-loop-give l = map numbered_expression l.forms.items ≡ map (λ (g : Give). (g.port, expr_of g.value)) (take l.give-index l.gives)
