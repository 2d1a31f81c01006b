use Rattle.std.proofs.Common.{◌≡◌, map}
use Rattle.cell_table.specs.Saved.{port_of_saved}
use Rattle.text_forms.specs.StateOf.{port_state_in}
use Rattle.state_lines.specs.Left.{all_left}
use Rattle.state_lines.proofs.Taken.{some_in, ahead}
use Rattle.state_lines.proofs.read.read_ports.Given as goal

abbrev pub invariant-loop-missing : goal.invariant-loop-missing
invariant-loop-missing l = some_in port_state_in l.fn.count (all_left l.fn.words)
    ≡ ahead (map port_of_saved l.ports.items) (some_in port_state_in l.missing (all_left l.words))

abbrev pub decreases-loop-missing : goal.decreases-loop-missing
decreases-loop-missing l = l.missing
