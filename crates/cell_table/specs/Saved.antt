-- The state that a value of the program stands for.
use Rattle.std.specs.Prelude.{ℕ, map, length}
use Rattle.cell_table.specs.declared.state.PortState as saved
use Rattle.cell_table.specs.declared.state.CellState as saved_cell
use Rattle.run_model.specs.CellStep.{PortState, CellState}

-- a port's state in code as one of the definitions
abbrev pub port_of_saved : saved.PortState → PortState
port_of_saved p = record { emitted = p.emitted; computed = p.computed; pairs = p.pairs.items }

-- a cell's state in code as one of the definitions
abbrev pub cell_of_saved : saved_cell.CellState → CellState
cell_of_saved c = record { ports = map port_of_saved c.ports.items; variables = c.variables.items }

-- how many pairs wait at a port
abbrev pub pair_number : saved.PortState → ℕ
pair_number p = length p.pairs.items
