use Rattle.std.proofs.Common.{◌≡◌, ◌+◌, ◌≤◌, drop, vec_len, vec_capacity}
use Rattle.rule_tree.specs.Meaning.{meanings}
use Rattle.rule_eval.specs.Seen.{sight_with}
use Rattle.rule_eval.specs.Kept.{AreCounts}
use Rattle.rule_forms.specs.Depth.{depth_of_all}
use Rattle.rule_forms.specs.Forms.{exprs_of_forms}
use Rattle.rule_eval.specs.Stacked.{stack_with_answers}
use Rattle.rule_eval.proofs.answers.+answer.Given as goal

abbrev pub invariant-stack_answers-loop-form : goal.invariant-stack_answers-loop-form
invariant-stack_answers-loop-form l = record {
  same : stack_with_answers l.answers.items (meanings (exprs_of_forms (drop l.form-index l.forms)) (sight_with l.view l.variables)) ≡ stack_with_answers l.fn.answers.items (meanings (exprs_of_forms l.forms) (sight_with l.view l.variables));
  room : vec_len l.answers + depth_of_all (exprs_of_forms (drop l.form-index l.forms)) ≤ vec_capacity l.answers;
  capacity : vec_capacity l.answers ≡ vec_capacity l.fn.answers;
  counts : AreCounts l.counts l.view;
}
