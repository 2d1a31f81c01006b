use Rattle.quantity.specs.declared.value.Value.{Value}
use Rattle.quantity.specs.declared.value.Value.TheVariants.{Undefined}
use Rattle.quantity.specs.Arithmetic.{same_value}
use Rattle.rule_tree.specs.Meaning.{whole}
use Rattle.rule_eval.proofs.Tallied.{one_counted}
use Rattle.rule_eval.proofs.tally.Tally.one.Goals as goal

pub returns : goal.returns
returns c =
    record {
      ones = one_counted (λ (w : Value). same_value (whole 1) w) c.args.value.now c.is_number.result c.one_where-ones.result c.is_number.ensures c.one_where-ones.ensures;
      zeros = one_counted (λ (w : Value). same_value (whole 0) w) c.args.value.now c.is_number-2.result c.one_where-zeros.result c.is_number-2.ensures c.one_where-zeros.ensures;
      undefs = one_counted (λ (w : Value). same_value Undefined w) c.args.value.now c.is_undefined.result c.one_where-undefs.result c.is_undefined.ensures c.one_where-undefs.ensures;
    }
