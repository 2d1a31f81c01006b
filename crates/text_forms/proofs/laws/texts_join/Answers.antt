use Rattle.text_forms.proofs.Joins.{texts_join}
use Rattle.text_forms.proofs.laws.texts_join.Goals as goal

pub returns : goal.returns
returns c = texts_join
