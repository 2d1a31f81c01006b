use Rattle.std.proofs.Common.{◌∙◌}
use Rattle.ma_lines.proofs.ByName.{position-by_name}
use Rattle.ma_lines.proofs.sections.Sections.find.Goals as goal

pub returns-clause-first : goal.returns-clause-first
returns-clause-first c = rw (← c.self.view_is) (c.get_index_of.ensures.index ∙ position-by_name c.args.name.now c.self.inside.by_name.entries c.self.invariant)
