use Rattle.std.proofs.lemmas.Result.{IfOk-weaker}
use Rattle.asked_words.proofs.table.usage_line.Goals as goal

pub returns : goal.returns
returns c = IfOk-weaker c.usage_of.result _ _ (λ line is. is) c.usage_of.ensures
