use Rattle.std.proofs.Common.{◌≡◌, ◌≤◌, map, drop, vec_capacity}
use Rattle.rule_eval.specs.Kept.{AreCounts}
use Rattle.rule_eval.specs.Seen.{sight_with}
use Rattle.rule_tree.specs.Chosen.{variables_after}
use Rattle.rule_forms.specs.Depth.{deepest}
use Rattle.rule_forms.specs.Numbered.{numbered_expression}
use Rattle.rule_eval.proofs.evaluation.set_variables.Given as goal

abbrev pub invariant-loop-set : goal.invariant-loop-set
invariant-loop-set l = record {
  same : variables_after (map numbered_expression (drop l.set-index l.sets)) (sight_with l.view l.changed) ≡ variables_after (map numbered_expression l.sets) (sight_with l.view l.fn.changed);
  room : deepest (map numbered_expression (drop l.set-index l.sets)) ≤ vec_capacity l.answers;
  capacity : vec_capacity l.answers ≡ vec_capacity l.fn.answers;
  counts : AreCounts l.counts l.view;
}
