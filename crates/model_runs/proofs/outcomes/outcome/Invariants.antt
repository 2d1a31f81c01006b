use Rattle.std.proofs.Common.{◌≤◌}
use Rattle.std.specs.Prelude.{All}
use Rattle.rule_forms.specs.Depth.{rule_depth}
use Rattle.model_runs.proofs.outcomes.outcome.Given as goal

abbrev pub invariant-loop-tree : goal.invariant-loop-tree
invariant-loop-tree l = All (λ rule. rule_depth rule ≤ l.depth) l.codes.items
