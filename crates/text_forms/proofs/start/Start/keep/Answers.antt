use Rattle.std.proofs.Common.{refl, rules}
use Rattle.text_forms.specs.Begun.{IsStart}
use Rattle.text_forms.proofs.Starts.{nothing_begun}
use Rattle.text_forms.proofs.start.Start.keep.Goals as goal

pub returns-then-not-keep-clause-right : goal.returns-then-not-keep-clause-right
returns-then-not-keep-clause-right c = λ m h. nothing_begun m _ refl

pub returns-else-not-keep-clause-right : goal.returns-else-not-keep-clause-right
unfolding IsStart
returns-else-not-keep-clause-right c = search rules
