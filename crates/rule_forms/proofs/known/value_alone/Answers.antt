use Rattle.std.proofs.Common.{map, sym, ◌∙◌}
use Rattle.rule_forms.specs.Numbered.{numbered_expression}
use Rattle.rule_forms.proofs.OneValue.{each_alone, something_set, stands_alone}
use Rattle.rule_forms.proofs.known.value_alone.Goals as goal

pub returns-then-is_empty-clause-always : goal.returns-then-is_empty-clause-always
returns-then-is_empty-clause-always c =
    stands_alone c.form_alone.result (map numbered_expression c.args.gives.now) c.args.sets.now (sym c.is_empty.ensures ∙ c.if-is_empty.true) c.form_alone.ensures.always

pub returns-then-is_empty-clause-each : goal.returns-then-is_empty-clause-each
returns-then-is_empty-clause-each c =
    each_alone _ (map numbered_expression c.args.gives.now) c.args.sets.now (sym c.is_empty.ensures ∙ c.if-is_empty.true) c.form_alone.ensures.each

pub returns-else-is_empty-clause-each : goal.returns-else-is_empty-clause-each
returns-else-is_empty-clause-each c =
    something_set (map numbered_expression c.args.gives.now) c.args.sets.now (sym c.is_empty.ensures ∙ c.if-is_empty.false)
