use Rattle.std.proofs.Common.{◌≡◌, take}
use Rattle.model_leaves.specs.declared.path.Source.{Source}
use Rattle.route_flat.specs.Ways.{targets_among}
use Rattle.route_flat.specs.BySource.{list_from}
use Rattle.route_flat.proofs.ways.by_source.Given as goal

abbrev pub invariant-loop-number : goal.invariant-loop-number
invariant-loop-number l = (from : Source) → list_from l.by from ≡ targets_among (take l.number l.ways) from
