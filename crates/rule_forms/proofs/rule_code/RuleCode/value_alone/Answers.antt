use Rattle.std.proofs.Common.{ℕ, List, map, ◌∙◌, subst}
use Rattle.std.specs.Prelude.{IfSome}
use Rattle.rule_tree.specs.Expression.{Expr}
use Rattle.rule_forms.specs.Forms.{expr_of_form}
use Rattle.rule_forms.specs.Numbered.{numbered_expression}
use Rattle.rule_forms.specs.Known.{StandsAlone, is_alone_in}
use Rattle.rule_forms.proofs.rule_code.RuleCode.value_alone.Goals as goal

pub returns-clause-always : goal.returns-clause-always
returns-clause-always c =
    let rule = c.args.self.now in
    subst (λ (gives : List (ℕ × Expr)). IfSome c.value_alone.result (λ f. StandsAlone (expr_of_form f.now) gives rule.sets)) c.gives.ensures
    (subst (λ (sets : List (ℕ × Expr)). IfSome c.value_alone.result (λ f. StandsAlone (expr_of_form f.now) (map numbered_expression c.gives.result.now) sets)) c.sets.ensures
    c.value_alone.ensures.always)

pub returns-clause-each : goal.returns-clause-each
returns-clause-each c = c.value_alone.ensures.each ∙ (λ k. is_alone_in (c.gives.ensures k) (c.sets.ensures k))
