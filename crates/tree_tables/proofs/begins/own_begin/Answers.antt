use Rattle.std.proofs.Common.{◌∙◌, sym, ap}
use Rattle.std.specs.Option.{option_map}
use Rattle.served_tree.specs.Rows.{own_input}
use Rattle.tree_tables.proofs.begins.own_begin.Goals as goal

pub returns-in-None : goal.returns-in-None
returns-in-None c = ap (option_map own_input) (sym c.in-None.is ∙ c.in_ok-place.ensures)

pub returns-in-Some : goal.returns-in-Some
returns-in-Some c = ap (option_map own_input) (sym c.in-Some.is ∙ c.in_ok-place.ensures)
