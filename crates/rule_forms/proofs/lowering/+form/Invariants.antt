use Rattle.std.proofs.Common.{◌≡◌, map, take}
use Rattle.rule_tree.specs.InCode.{expr_of}
use Rattle.rule_forms.specs.Forms.{expr_of_form}
use Rattle.rule_forms.proofs.lowering.+form.Given as goal

abbrev pub invariant-forms_of-loop-node : goal.invariant-forms_of-loop-node
invariant-forms_of-loop-node l = map expr_of_form l.forms.items ≡ map expr_of (take l.node-index l.nodes)
