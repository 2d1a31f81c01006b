use Rattle.std.proofs.Common.{◌∙◌}
use Rattle.text_forms.proofs.Starts.{two_dims}
use Rattle.text_forms.proofs.place_text.short_place.Goals as goal

pub returns-then-place-lt1000-2-clause-text : goal.returns-then-place-lt1000-2-clause-text
returns-then-place-lt1000-2-clause-text c =
    two_dims c.args.grid.now c.args.cell c.position-place.result (λ e. c.if-dims-eq3.false (c.dims.ensures ∙ e)) c.position-place.ensures.value
