use Rattle.std.proofs.Common.{◌≡◌, ◌≤◌, drop}
use Rattle.model_text.specs.Spaces.{first_large}
use Rattle.model_walk.specs.Met.{sections_at}
use Rattle.model_spaces.proofs.sizes.first_large.Given as goal

abbrev pub invariant-loop-section : goal.invariant-loop-section
invariant-loop-section l = record {
  few : l.total ≤ 1048576;
  rest : first_large l.total (sections_at (drop l.section-index l.groups)) ≡ first_large 0 (sections_at l.groups);
}
