use Rattle.std.proofs.Common.{ltb, sym, ◌∙◌}
use Rattle.std.proofs.lemmas.Bool.{and_parts, and_from, ltb-true, lt-ltb}
use Rattle.cell_grid.specs.Space.{cell_count}
use Rattle.cell_grid.specs.Watched.{leads_to, watchers}
use Rattle.cell_grid.proofs.Rising.{Contains-from_has, has-from_Contains}
use Rattle.cell_grid.proofs.Watching.{has-watchers, watchers-rise, no_watchers, Any-from_leads_to, leads_to-from_Any}
use Rattle.cell_grid.proofs.laws.watchers_have_the_cell_as_a_neighbour.Goals as goal

pub returns-clause-cells : goal.returns-clause-cells
returns-clause-cells c = λ s offsets cell x. (
  λ at.
      let tests = and_parts (ltb x (cell_count s)) (leads_to s offsets cell x) (sym (has-watchers s offsets cell x) ∙ has-from_Contains (watchers s offsets cell) x at) in
      (ltb-true x (cell_count s) tests.0, Any-from_leads_to s offsets cell x tests.1),
  λ at.
      let tests = and_from (ltb x (cell_count s)) (leads_to s offsets cell x) (lt-ltb x (cell_count s) at.0) (leads_to-from_Any s offsets cell x at.1) in
      Contains-from_has (watchers s offsets cell) x (has-watchers s offsets cell x ∙ tests),
)

pub returns-clause-outside : goal.returns-clause-outside
returns-clause-outside c = no_watchers

pub returns-clause-rising : goal.returns-clause-rising
returns-clause-rising c = watchers-rise
