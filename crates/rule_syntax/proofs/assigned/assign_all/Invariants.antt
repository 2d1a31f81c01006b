use Rattle.std.proofs.Common.{drop}
use Rattle.rule_words.specs.Shown.{names_of}
use Rattle.rule_syntax.proofs.Gathered.{Gathered, assigned_in}
use Rattle.rule_syntax.proofs.assigned.assign_all.Given as goal

abbrev pub invariant-loop-part : goal.invariant-loop-part
invariant-loop-part l = Gathered (names_of l.names) l.kind l.values (assigned_in l.kind (drop l.part-index l.parts)) (assigned_in l.kind l.parts)
