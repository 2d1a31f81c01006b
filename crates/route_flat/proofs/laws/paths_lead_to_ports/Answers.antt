use Rattle.route_flat.proofs.Targets.{all-lead}
use Rattle.route_flat.proofs.laws.paths_lead_to_ports.Goals as goal

pub returns : goal.returns
returns c = all-lead
