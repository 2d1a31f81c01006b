use Rattle.route_flat.proofs.TreePaths.{paths-of-tree}
use Rattle.route_flat.proofs.laws.paths_are_those_of_the_tree.Goals as goal

pub returns : goal.returns
returns c = paths-of-tree
