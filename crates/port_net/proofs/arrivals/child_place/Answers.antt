use Rattle.std.proofs.Common.{ap}
use Rattle.model_tree.specs.declared.link.End.TheVariants as end
use Rattle.port_net.proofs.arrivals.child_place.Goals as goal

pub returns : goal.returns
returns c = ap (end.Child c.args.port.items) c.in_ok-bytes.ensures
