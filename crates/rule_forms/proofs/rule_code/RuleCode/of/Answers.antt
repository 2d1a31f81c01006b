use Rattle.rule_forms.proofs.Beforehand.{for_a_condition, each_condition}
use Rattle.rule_forms.proofs.rule_code.RuleCode.of.Goals as goal

pub invariant_of-result : goal.invariant_of-result
invariant_of-result c =
    let gives = c.deref.result.now in
    let sets = c.deref-2.result.now in
    record {
      depth = c.requires;
      delay = c.constant_delay-constant_delay.ensures.always;
      each_delay = c.constant_delay-constant_delay.ensures.each;
      constant = for_a_condition c.constant_of-constant.result gives c.args.gives.items c.args.delay c.args.condition sets c.args.sets.items c.deref.ensures.value c.deref-2.ensures.value c.constant_of-constant.ensures.always;
      each_constant = each_condition c.constant_of-constant.result gives c.args.gives.items c.args.delay c.args.condition sets c.args.sets.items c.deref.ensures.value c.deref-2.ensures.value c.constant_of-constant.ensures.each;
    }
