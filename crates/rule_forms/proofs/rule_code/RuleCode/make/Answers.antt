use Rattle.std.proofs.lemmas.Result.{IfOk-weaker}
use Rattle.rule_tree.specs.InCode.{rule_of}
use Rattle.rule_forms.proofs.Depths.{no_deeper}
use Rattle.rule_forms.proofs.rule_code.RuleCode.make.Goals as goal

pub returns-clause-depth : goal.returns-clause-depth
returns-clause-depth c =
    let rule = rule_of c.args.tree.now in
    IfOk-weaker c.with_values.result _ _ (λ code same. no_deeper rule code same) c.with_values.ensures
