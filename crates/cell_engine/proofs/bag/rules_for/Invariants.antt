use Rattle.std.proofs.Common.{◌≡◌, drop}
use Rattle.std.specs.List.{find}
use Rattle.cell_engine.specs.Step.{is_for}
use Rattle.cell_engine.proofs.bag.rules_for.Given as goal

abbrev pub invariant-loop-rule : goal.invariant-loop-rule
invariant-loop-rule l = find (is_for l.cell l.port) l.rule-items ≡ find (is_for l.cell l.port) (drop l.rule-index l.rule-items)
