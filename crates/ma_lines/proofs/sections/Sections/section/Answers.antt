use Rattle.ma_lines.proofs.ByName.{slice_get-shown}
use Rattle.ma_lines.proofs.sections.Sections.section.Goals as goal

pub returns : goal.returns
returns c = rw (← c.self.view_is) (slice_get-shown c.self.inside.by_name.entries c.args.at c.index.result.now c.index.ensures)
