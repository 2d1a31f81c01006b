use Rattle.std.proofs.Common.{◌≡◌, drop, vec_capacity}
use Rattle.rule_eval.specs.Kept.{AreCounts}
use Rattle.rule_eval.specs.Seen.{sight_of_view}
use Rattle.rule_tree.specs.Chosen.{outcome_of_rules}
use Rattle.rule_eval.proofs.evaluation.first_true.Given as goal

abbrev pub invariant-loop-rule : goal.invariant-loop-rule
invariant-loop-rule l = record {
  same : outcome_of_rules (drop l.rule-index l.rules) (sight_of_view l.view) ≡ outcome_of_rules l.rules (sight_of_view l.view);
  capacity : vec_capacity l.answers ≡ vec_capacity l.fn.answers;
  counts : AreCounts l.counts l.view;
}
