use Rattle.std.proofs.Common.{rules}
use Rattle.text_forms.specs.Begun.{place_text}
use Rattle.text_forms.proofs.place_text.put_place.Goals as goal

pub returns-clause-ok : goal.returns-clause-ok
unfolding place_text
returns-clause-ok c = search rules
