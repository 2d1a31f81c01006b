-- How cells lie in flat lists, one for all ports of all cells and one for all variables.
use Rattle.std.specs.Prelude.{◌≡◌, ℕ, ◌+◌, ◌*◌, ◌≤◌, ◌==◌, Option, Some, None, List, [], ◌∷◌, ◌++◌, map, length, take, drop, slice_index_or, if◌then◌else◌}
use Rattle.std.specs.List.{All, range_with_len}
use Rattle.quantity.specs.declared.bounds.TheConstants.{MAX_CELLS}
use Rattle.quantity.specs.declared.value.Value.{Value}
use Rattle.quantity.specs.declared.value.Value.TheVariants.{Undefined}
use Rattle.rule_tree.specs.Ports.{changed_at, taken_by_port}
use Rattle.atomic_face.specs.Classes.{is_at}
use Rattle.run_model.specs.CellStep.{PortState, CellState, first_time, port_emitted, initial_port}
use Rattle.run_model.specs.Fitting.{HasNumbers}
use Rattle.cell_table.specs.Told.{cell_at}

-- how many ports a cell has, `out` included, how many variables, and the cells
pub record Table : Type 0 where
  pub width : ℕ
  pub variables : ℕ
  pub cells : List CellState

-- each cell has just these numbers of ports and variables, and there are no more than a group may
-- have
pub record IsTable (t : Table) : Type 0 where
  pub numbers : All (HasNumbers t.width t.variables) t.cells
  pub width : t.width ≤ 4
  pub variables : t.variables ≤ 8
  pub cells : length t.cells ≤ MAX_CELLS

-- ---- flat lists

-- the port of this number among the ports of all cells
abbrev pub port_in : List Value → List Value → List (List (ℕ × Value)) → ℕ → PortState
port_in emitted computed lists k =
    record {
      emitted = slice_index_or emitted k Undefined;
      computed = slice_index_or computed k Undefined;
      pairs = slice_index_or lists k [];
    }

-- the variable of this number among the variables of all cells
abbrev pub variable_in : List Value → ℕ → Value
variable_in values k = slice_index_or values k Undefined

-- cell i, of so many ports and variables
abbrev pub cell_in : (ℕ → PortState) → (ℕ → Value) → ℕ → ℕ → ℕ → CellState
cell_in port variable width count i =
    record {
      ports = map port (range_with_len (i * width) width);
      variables = map variable (range_with_len (i * count) count);
    }

-- all n cells
abbrev pub cells_in : (ℕ → PortState) → (ℕ → Value) → ℕ → ℕ → ℕ → List CellState
cells_in port variable width count n = map (cell_in port variable width count) (range_with_len 0 n)

-- the lists have a place for each port and each variable of all n cells
pub record IsLaid (n w k : ℕ) (es cs : List Value) (ls : List (List (ℕ × Value)))
    (xs : List Value) : Type 0 where
  pub emitted : length es ≡ n * w
  pub computed : length cs ≡ n * w
  pub lists : length ls ≡ n * w
  pub variables : length xs ≡ n * k
  pub some : 1 ≤ w
  pub width : w ≤ 4
  pub count : k ≤ 8
  pub cells : n ≤ MAX_CELLS

-- ---- changes

-- the list with these in the place of as many, from a place on
abbrev pub with_piece : {A : Type 0} → ℕ → List A → List A → List A
with_piece first new xs = take first xs ++ new ++ drop (first + length new) xs

-- one cell is changed
abbrev pub changed_cell : ℕ → (CellState → CellState) → Table → Table
changed_cell i change t = record t { cells = changed_at i change t.cells }

-- one port of a cell is changed
abbrev pub changed_port : ℕ → (PortState → PortState) → CellState → CellState
changed_port p change c = record c { ports = changed_at p change c.ports }

-- the ports of a cell are changed
abbrev pub changed_ports : (List PortState → List PortState) → CellState → CellState
changed_ports change c = record c { ports = change c.ports }

-- the variables of a cell have these values
abbrev pub with_variables : List Value → CellState → CellState
with_variables values c = record c { variables = values }

-- so many of a cell's ports, the first ones, have taken what was given to them, and nothing else
-- has changed
pub record TookFirst (give : Value → PortState → PortState) (vs : List (Option Value)) (i : ℕ)
    (old new : Table) : Type 0 where
  pub count : ℕ
  pub table : new ≡ changed_cell i (changed_ports (taken_by_port give (take count vs))) old

-- cells of the same numbers of ports and variables
pub record HasShape (old new : Table) : Type 0 where
  pub width : new.width ≡ old.width
  pub variables : new.variables ≡ old.variables
  pub cells : length new.cells ≡ length old.cells

-- ---- the start

-- the list in which a value waits for 0
abbrev pub waits_at_0 : Value → List (ℕ × Value)
waits_at_0 v = (0, v) ∷ []

-- a cell at the start: its initial value, those of its further ports, and its variables
abbrev pub cell_at_start : List Value → List Value → Value → CellState
cell_at_start further variables v =
    record { ports = map initial_port (v ∷ further); variables = variables }

-- all cells at the start
abbrev pub table_at_start : List Value → List Value → List Value → Table
table_at_start initial further xs =
    record {
      width = length further + 1;
      variables = length xs;
      cells = map (cell_at_start further xs) initial;
    }

-- ---- what a port tells

-- what stands past the last port
abbrev pub no_port : PortState
no_port = record { emitted = Undefined; computed = Undefined; pairs = [] }

-- the port of this number of a cell
abbrev pub port_at : Table → ℕ → ℕ → PortState
port_at t i p = slice_index_or (cell_at t.cells i).ports p no_port

-- what a port gives at this time
abbrev pub given_by_port : ℕ → PortState → Option Value
given_by_port t p = if is_at t (first_time p.pairs) then Some (port_emitted t p).emitted else None

-- the first pair of a list, where its time is this one
abbrev pub pair_at : ℕ → List (ℕ × Value) → Option (ℕ × Value)
pair_at t [] = None
pair_at t (p ∷ ps) = if p.0 == t then Some p else None
