use Rattle.std.proofs.Common.{sym, ◌∙◌}
use Rattle.cell_engine.proofs.memo.is_own.Goals as goal

pub returns : goal.returns
returns c = λ so. sym c.offset_at-offset.ensures ∙ c.is_nothing.ensures so
