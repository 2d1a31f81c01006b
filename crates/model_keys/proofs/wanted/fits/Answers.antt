use Rattle.std.proofs.Common.{length, sym, ap, ◌∙◌}
use Rattle.std.specs.Prelude.{◌==◌, ◌&&◌}
use Rattle.quantity.specs.Bytes.{words}
use Rattle.quantity.specs.Literals.{value_in}
use Rattle.model_keys.specs.declared.wanted.Wanted.{Wanted}
use Rattle.model_keys.specs.Wanted.{fits}
use Rattle.model_keys.proofs.Fits.{as_many}
use Rattle.model_keys.proofs.wanted.fits.Goals as goal

pub returns-in-Exactly : goal.returns-in-Exactly
returns-in-Exactly c = λ text read.
    (λ i. (c.are_values-in-Exactly.ensures ∙ read.all) i && (length ((c.values.ensures ∙ read.values) i) == c.in-Exactly.count))
    ∙ as_many value_in c.in-Exactly.count (words text) ∙ ap (λ (w : Wanted). fits w text) (sym c.in-Exactly.is)
