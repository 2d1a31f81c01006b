use Rattle.std.proofs.Common.{rules, map, ◌∙◌}
use Rattle.cell_table.specs.Saved.{port_of_saved}
use Rattle.text_forms.specs.StateOf.{port_state_in}
use Rattle.state_lines.specs.Left.{all_left}
use Rattle.state_lines.proofs.Taken.{one_less, map_more, read_some}
use Rattle.state_lines.proofs.read.read_ports.Goals as goal

pub loop-missing-preserved : goal.loop-missing-preserved
loop-missing-preserved c =
    c.loop-missing.invariant
    ∙ one_less port_state_in c.loop-missing.missing (all_left c.loop-missing.words)
    (all_left c.next_port.new.words) (map port_of_saved c.loop-missing.ports.items)
    (map port_of_saved c.push.new.self.items) (port_of_saved c.in-Some.port)
    c.loop-missing-test.true (read_some port_of_saved (port_state_in (all_left c.loop-missing.words))
    (all_left c.next_port.new.words) c.in_ok-port.field-0 c.in-Some.port c.in_ok-port.ensures
    c.in-Some.is) (map_more port_of_saved c.loop-missing.ports.items c.push.new.self.items
    c.in-Some.port (search rules))
