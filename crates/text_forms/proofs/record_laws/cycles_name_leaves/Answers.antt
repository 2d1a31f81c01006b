use Rattle.text_forms.proofs.NamedLeaves.{cycles_name_leaves}
use Rattle.text_forms.proofs.record_laws.cycles_name_leaves.Goals as goal

pub returns : goal.returns
returns c = cycles_name_leaves
