use Rattle.std.proofs.Common.{◌≡◌, ◌≤◌, map, drop, vec_capacity}
use Rattle.rule_eval.specs.Kept.{AreCounts}
use Rattle.rule_eval.specs.Seen.{sight_of_view}
use Rattle.rule_forms.specs.Depth.{deepest}
use Rattle.rule_forms.specs.Numbered.{numbered_expression}
use Rattle.rule_forms.specs.Puts.{put_by, no_values}
use Rattle.rule_eval.proofs.evaluation.give_values.Given as goal

abbrev pub invariant-loop-give : goal.invariant-loop-give
invariant-loop-give l = record {
  same : put_by (map numbered_expression (drop l.give-index l.gives)) (sight_of_view l.view) l.given.values ≡ put_by (map numbered_expression l.gives) (sight_of_view l.view) no_values;
  room : deepest (map numbered_expression (drop l.give-index l.gives)) ≤ vec_capacity l.answers;
  capacity : vec_capacity l.answers ≡ vec_capacity l.fn.answers;
  counts : AreCounts l.counts l.view;
}
