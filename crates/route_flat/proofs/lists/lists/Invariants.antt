use Rattle.std.proofs.Common.{take}
use Rattle.route_flat.specs.Lists.{AreLists}
use Rattle.route_flat.proofs.lists.lists.Given as goal

abbrev pub invariant-loop-port : goal.invariant-loop-port
invariant-loop-port l = AreLists l.nodes (take l.port-index l.ports) l.fn.paths.items l.paths.items l.spans.items
