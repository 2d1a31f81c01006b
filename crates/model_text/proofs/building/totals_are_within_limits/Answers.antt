use Rattle.model_text.proofs.Whole.{totals_are_within_limits}
use Rattle.model_text.proofs.building.totals_are_within_limits.Goals as goal

pub returns : goal.returns
returns c = totals_are_within_limits
