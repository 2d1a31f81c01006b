use Rattle.std.proofs.Common.{take}
use Rattle.delay_lines.specs.Nodes.{AreAlone}
use Rattle.delay_lines.specs.Places.{look_in}
use Rattle.delay_lines.proofs.delays.links_to_new.Given as goal

abbrev pub invariant-loop-value : goal.invariant-loop-value
invariant-loop-value l = AreAlone (look_in l.nodes) l.at l.links.items (take l.value-index l.values)
