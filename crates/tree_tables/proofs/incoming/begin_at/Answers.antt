use Rattle.std.proofs.Common.{◌∙◌, sym, ap}
use Rattle.tree_tables.specs.Incoming.{begin_seen}
use Rattle.tree_tables.proofs.incoming.begin_at.Goals as goal

pub returns-in-None : goal.returns-in-None
returns-in-None c = ap begin_seen (sym c.in-None.is ∙ c.known_at.ensures)

pub returns-in-Some : goal.returns-in-Some
returns-in-Some c = ap begin_seen (sym c.in-Some.is ∙ c.known_at.ensures)
