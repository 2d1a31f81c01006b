-- What a cell has emitted last, by its whole state as it is told.
use Rattle.std.proofs.Common.{◌≡◌, ℕ, ◌<◌, Option, Some, None, List, [], ◌∷◌, length, map, refl, sym, ap, ◌∙◌}
use Rattle.std.specs.Prelude.{slice_get}
use Rattle.std.proofs.lemmas.Option.{slice_get-get_or}
use Rattle.quantity.specs.declared.value.Value.{Value}
use Rattle.quantity.specs.declared.value.Value.TheVariants.{Undefined}
use Rattle.run_model.specs.Cycle.{LeafState, cell_state}
use Rattle.cell_table.specs.declared.state.PortState as saved
use Rattle.cell_table.specs.declared.state.CellState as saved_cell
use Rattle.cell_table.specs.Saved.{port_of_saved, cell_of_saved}
use Rattle.sparse_cycle.specs.Sparse.{no_leaf, leaf_of}
use Rattle.answer_model.specs.RunFiles.{emitted_of}
use Rattle.run_loop.specs.Emitted.{given_by}

-- what the first of its ports has emitted
abbrev first_of : Option saved.PortState → Value
first_of None = Undefined
first_of (Some p) = p.emitted

first_given : (ps : List saved.PortState) (vs : List Value) → first_of (slice_get ps 0) ≡ emitted_of (Some (cell_state (record { ports = map port_of_saved ps; variables = vs })))
first_given [] vs = refl
first_given (p ∷ ps) vs = refl

pub emitted_is : (states : List LeafState) (leaf : ℕ) (c : saved_cell.CellState) (o : Option saved.PortState) → leaf < length states → leaf_of states leaf ≡ cell_state (cell_of_saved c) → o ≡ slice_get c.ports.items 0
    → first_of o ≡ given_by states leaf
emitted_is states leaf c o inside is there =
    ap first_of there ∙ first_given c.ports.items c.variables.items
    ∙ sym (ap emitted_of (slice_get-get_or states leaf no_leaf inside ∙ ap (λ (s : LeafState). Some s) is))
