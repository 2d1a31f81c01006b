use Rattle.sparse_cycle.proofs.Feeding.{feeds-by-number, numbers-are-within}
use Rattle.sparse_cycle.proofs.Targets.{targets-are-leaves}
use Rattle.sparse_cycle.proofs.FedParts.{feeds-parts}
use Rattle.sparse_cycle.proofs.OutsFed.{outs-are-fed}
use Rattle.sparse_cycle.proofs.laws.paths_feed_by_number.Goals as goal

pub returns-clause-feeds : goal.returns-clause-feeds
returns-clause-feeds c = feeds-by-number

pub returns-clause-within : goal.returns-clause-within
returns-clause-within c = numbers-are-within

pub returns-clause-targets : goal.returns-clause-targets
returns-clause-targets c = targets-are-leaves

pub returns-clause-cycle : goal.returns-clause-cycle
returns-clause-cycle c = feeds-parts

pub returns-clause-outputs : goal.returns-clause-outputs
returns-clause-outputs c = outs-are-fed
