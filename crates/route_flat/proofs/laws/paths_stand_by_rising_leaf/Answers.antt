use Rattle.route_flat.proofs.Targets.{all-rise}
use Rattle.route_flat.proofs.laws.paths_stand_by_rising_leaf.Goals as goal

pub returns : goal.returns
returns c = all-rise
