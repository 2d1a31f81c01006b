-- The rule that forms stand for.
use Rattle.std.specs.Prelude.{ℕ, List, map}
use Rattle.rule_tree.specs.Expression.{Expr, Rule}
use Rattle.rule_forms.specs.declared.forms.Form.{Form}
use Rattle.rule_forms.specs.declared.numbered.NumberedForm.{NumberedForm}
use Rattle.rule_forms.specs.Forms.{expr_of_form}

-- the expression that a form for a port or a variable stands for, with its number
abbrev pub numbered_expression : NumberedForm → ℕ × Expr
numbered_expression f = (f.number, expr_of_form f.form)

-- the rule in these forms: what it gives, its delay, its condition, what it sets
abbrev pub rule_of_forms : List NumberedForm → Form → Form → List NumberedForm → Rule
rule_of_forms gives delay condition sets =
    record {
      gives = map numbered_expression gives;
      delay = expr_of_form delay;
      condition = expr_of_form condition;
      sets = map numbered_expression sets;
    }
