use Rattle.sparse_cycle.proofs.Feeding.{y-shows-given, y-rises}
use Rattle.sparse_cycle.proofs.FedParts.{x-rises}
use Rattle.sparse_cycle.proofs.laws.records_show_what_is_given.Goals as goal

pub returns-clause-shows : goal.returns-clause-shows
returns-clause-shows c = y-shows-given

pub returns-clause-y_rises : goal.returns-clause-y_rises
returns-clause-y_rises c = y-rises

pub returns-clause-x_rises : goal.returns-clause-x_rises
returns-clause-x_rises c = x-rises
