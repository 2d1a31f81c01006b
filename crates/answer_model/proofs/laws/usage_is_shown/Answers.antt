use Rattle.std.proofs.Common.{refl}
use Rattle.answer_model.proofs.laws.usage_is_shown.Goals as goal

pub returns : goal.returns
returns c = record { cdpp = refl; drawlog = refl }
