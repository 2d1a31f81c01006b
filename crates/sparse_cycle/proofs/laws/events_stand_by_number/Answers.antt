use Rattle.sparse_cycle.proofs.Distinct.{distinct-where-once}
use Rattle.sparse_cycle.proofs.TopInputs.{top-by-number}
use Rattle.sparse_cycle.proofs.laws.events_stand_by_number.Goals as goal

pub returns-clause-inputs : goal.returns-clause-inputs
returns-clause-inputs c = top-by-number

pub returns-clause-distinct : goal.returns-clause-distinct
returns-clause-distinct c = distinct-where-once
