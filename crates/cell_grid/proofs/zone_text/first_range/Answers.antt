use Rattle.std.proofs.Common.{sym, ◌∙◌, ap}
use Rattle.source_text.specs.Tuples.{parts_of}
use Rattle.cell_grid.specs.ZoneTexts.{bare_place}
use Rattle.cell_grid.proofs.ZoneLemmas.{one_place}
use Rattle.cell_grid.proofs.zone_text.first_range.Goals as goal

pub returns-in_default-clause-value : goal.returns-in_default-clause-value
returns-in_default-clause-value c =
    one_place c.args.grid.now c.args.part.now (parts_of c.args.behind.now) c.in_ok-start.start (sym c.starts_with.ensures.value ∙ c.if-starts_with.false)
    (ap (bare_place c.args.grid.now) (sym c.trimmed.ensures) ∙ sym c.bare_place.ensures ∙ c.in_ok-start.was) c.in_default.ensures.parts
