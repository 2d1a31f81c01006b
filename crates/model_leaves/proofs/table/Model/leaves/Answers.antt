use Rattle.std.proofs.Common.{◌∙◌}
use Rattle.model_leaves.proofs.Read.{rows-length}
use Rattle.model_leaves.proofs.table.Model.leaves.Goals as goal

pub returns : goal.returns
returns c = λ settings. c.len.ensures ∙ rows-length c.args.self.now settings
