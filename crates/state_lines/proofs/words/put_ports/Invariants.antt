use Rattle.std.proofs.Common.{◌≡◌, ◌++◌, length, take}
use Rattle.std.specs.List.{flat_map}
use Rattle.cell_table.specs.declared.state.PortState.{PortState}
use Rattle.cell_table.specs.Saved.{port_of_saved}
use Rattle.text_forms.specs.StateText.{port_words}
use Rattle.state_lines.specs.Words.{spaced_words}
use Rattle.state_lines.proofs.words.put_ports.Given as goal

abbrev pub invariant-loop-port : goal.invariant-loop-port
invariant-loop-port l = record {
  appended : l.into.items
      ≡ l.fn.into.items ++ flat_map (λ (x : PortState). spaced_words (port_words (port_of_saved x)))
      (take l.port-index l.ports);
  kept : take (length l.fn.into.items) l.into.items ≡ l.fn.into.items;
}
