use Rattle.route_flat.proofs.Covered.{ports-covered}
use Rattle.route_flat.proofs.laws.each_port_has_its_list.Goals as goal

pub returns : goal.returns
returns c = ports-covered
