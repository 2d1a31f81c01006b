use Rattle.std.proofs.Common.{◌≡◌, map}
use Rattle.std.specs.List.{range_with_len}
use Rattle.port_net.specs.Shown.{input_node}
use Rattle.port_net.proofs.making.inputs.Given as goal

abbrev pub invariant-loop-i : goal.invariant-loop-i
invariant-loop-i l = l.nodes.items ≡ map input_node (range_with_len 0 l.i)
