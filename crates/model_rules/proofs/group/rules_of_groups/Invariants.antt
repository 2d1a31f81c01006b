use Rattle.std.proofs.Common.{take, map}
use Rattle.model_rules.specs.Parts.{group_section, HasGroups, KeepsLast}
use Rattle.model_rules.proofs.group.rules_of_groups.Given as goal

abbrev pub invariant-loop-group : goal.invariant-loop-group
invariant-loop-group l = record {
  rules : HasGroups l.sections (map group_section (take l.group-index l.groups)) l.read;
  last : KeepsLast l.sections l.read;
}
