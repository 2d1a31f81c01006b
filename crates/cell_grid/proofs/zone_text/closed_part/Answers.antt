use Rattle.cell_grid.proofs.ZoneLemmas.{parts_cases}
use Rattle.cell_grid.proofs.zone_text.closed_part.Goals as goal

pub returns-clause-parts : goal.returns-clause-parts
returns-clause-parts c = parts_cases c.args.text.now c.part_before.result c.part_before.ensures.parts
