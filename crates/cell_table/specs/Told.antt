-- A cell among the cells of a group, what is told of it and what it gives.
use Rattle.std.specs.Prelude.{◌≡◌, ℕ, ◌+◌, ◌*◌, ◌<◌, Option, Some, None, List, [], ◌∷◌, map, length, slice_set, slice_index_or}
use Rattle.std.specs.List.{enumerate_from, flat_map}
use Rattle.quantity.specs.declared.value.Value.{Value}
use Rattle.quantity.specs.declared.value.Value.TheVariants.{Undefined}
use Rattle.rule_forms.specs.declared.given.Given.{Given}
use Rattle.atomic_face.specs.Classes.{Bag}
use Rattle.run_model.specs.CellStep.{PortState, CellState, cell_next}
use Rattle.cell_table.specs.declared.cell.Cell.{Cell}

-- what stands past the last cell
abbrev pub no_cell : CellState
no_cell = record { ports = []; variables = [] }

-- the cell of this number
abbrev pub cell_at : List CellState → ℕ → CellState
cell_at cells i = slice_index_or cells i no_cell

-- ---- what is told of a cell

-- of each of four ports the value, and `?` past the group's ports
abbrev pub in_four : List Value → List Value
in_four vs =
    slice_index_or vs 0 Undefined ∷ slice_index_or vs 1 Undefined ∷ slice_index_or vs 2 Undefined
    ∷ slice_index_or vs 3 Undefined ∷ []

-- what each port has emitted
abbrev pub values_emitted : CellState → List Value
values_emitted c = map (λ (p : PortState). p.emitted) c.ports

-- all that the ports of cells of one width have emitted: port p of cell i stands at i * width + p
abbrev pub AreEmitted : ℕ → List CellState → List Value → Type 0
AreEmitted width cells values =
    (i p : ℕ) → i < length cells → p < width
    → slice_index_or values (i * width + p) Undefined
    ≡ slice_index_or (values_emitted (cell_at cells i)) p Undefined

-- what each port has computed
abbrev pub values_computed : CellState → List Value
values_computed c = map (λ (p : PortState). p.computed) c.ports

-- the values and the next time of a cell
pub record Tells (told : Cell) (c : CellState) : Type 0 where
  pub emitted : told.emitted ≡ in_four (values_emitted c)
  pub computed : told.computed ≡ in_four (values_computed c)
  pub next : told.next ≡ cell_next c

-- ---- what a cell gives

-- a port and its value, where it gives one
abbrev pub if_given : ℕ × Option Value → Bag
if_given (port, None) = []
if_given (port, Some v) = (record { 0 = port }, v) ∷ []

-- what is given port by port, as a bag
abbrev pub bag_of_given : Given → Bag
bag_of_given g = flat_map if_given (enumerate_from 0 g.values)

-- ---- what stays

-- every other cell stays, and what the cell has emitted
pub record OnlyCell (i : ℕ) (old new : List CellState) : Type 0 where
  pub others : new ≡ slice_set old i (cell_at new i)
  pub emitted : values_emitted (cell_at new i) ≡ values_emitted (cell_at old i)
