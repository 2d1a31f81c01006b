use Rattle.std.proofs.Common.{◌≡◌, List, map, length}
use Rattle.quantity.specs.Bytes.{words, all_there}
use Rattle.quantity.specs.Literals.{value_in}
use Rattle.quantity.specs.declared.value.Value.{Value}
use Rattle.cell_grid.proofs.Gathered.{behind}
use Rattle.cell_grid.proofs.rows.are_values.Given as goal

abbrev pub invariant-loop-number : goal.invariant-loop-number
invariant-loop-number l =
    (front : List Value) × (length front ≡ l._number)
    × (all_there (map value_in (words l.text)) ≡ behind front (all_there (map value_in (words l.left))))
