use Rattle.std.proofs.Common.{◌≡◌, length, map}
use Rattle.std.specs.List.{list_all}
use Rattle.cell_table.specs.Saved.{port_of_saved}
use Rattle.text_forms.specs.LeafStates.{is_port_state}
use Rattle.state_lines.proofs.compare.are_port_states.Given as goal

abbrev pub invariant-loop-left : goal.invariant-loop-left
invariant-loop-left l = list_all (is_port_state l.fn.t) (map port_of_saved l.fn.ports)
    ≡ list_all (is_port_state l.fn.t) (map port_of_saved l.left)

abbrev pub decreases-loop-left : goal.decreases-loop-left
decreases-loop-left l = length l.left
