use Rattle.std.proofs.Common.{◌≡◌, None, Some, ap, ◌∙◌, subst}
use Rattle.std.specs.Prelude.{Option, IfSome, IsTrue}
use Rattle.std.specs.Option.{option_map}
use Rattle.model_leaves.specs.declared.table.Model.{Model}
use Rattle.model_leaves.specs.Leaves.{AtLeaf}
use Rattle.model_tree.specs.Tree.{Leaf}
use Rattle.run_model.specs.Cycle.{cell_state}
use Rattle.cell_table.specs.declared.state.CellState.{CellState}
use Rattle.cell_table.specs.Saved.{cell_of_saved}
use Rattle.text_forms.specs.StateOf.{read_leaf}
use Rattle.run_leaves.specs.Standing.{tree_in}
use Rattle.state_lines.specs.LeafLines.{has_numbers, IsCellWith}
use Rattle.state_file.proofs.Putting.{can_put, cell_not_taken, cell_taken}
use Rattle.state_file.proofs.leaf.take_cell.Goals as goal

pub returns-in_default : goal.returns-in_default
returns-in_default g c =
    let size = c.args.size in
    let line = c.args.line.now in
    cell_not_taken c.args.run.now c.args.run.now c.args.leaf c.args.t size line c.requires.cell
    (subst (λ (m : Model). AtLeaf m c.args.leaf
    (λ (l : Leaf). IsCellWith size.ports size.variables l → read_leaf c.args.t l line ≡ None))
    c.model.ensures
    (λ settings l there h. c.in_ok-found.ensures.found settings l there h
    ∙ ap (option_map (λ (x : CellState). cell_state (cell_of_saved x))) c.in_default.is))

pub put_cell-requires-clause-state : goal.put_cell-requires-clause-state
put_cell-requires-clause-state g c =
    let size = c.args.size in
    can_put (tree_in c.args.run.now) c.args.leaf c.args.t size (cell_of_saved c.in-Some.state)
    c.requires.cell
    (subst (λ (o : Option CellState). IfSome o (λ x. IsTrue (has_numbers c.args.t size.ports
    size.variables (cell_of_saved x)))) c.in-Some.is c.in_ok-found.ensures.numbers)

pub returns : goal.returns
returns g c =
    let size = c.args.size in
    let line = c.args.line.now in
    let state = cell_of_saved c.in-Some.state in
    cell_taken c.args.run.now c.put_cell.new.self c.args.leaf c.args.t size line state
    c.requires.cell
    (subst (λ (m : Model). AtLeaf m c.args.leaf
    (λ (l : Leaf). IsCellWith size.ports size.variables l
    → read_leaf c.args.t l line ≡ Some (cell_state state))) c.model.ensures
    (λ settings l there h. c.in_ok-found.ensures.found settings l there h
    ∙ ap (option_map (λ (x : CellState). cell_state (cell_of_saved x))) c.in-Some.is))
    c.in_ok-put_cell.ensures.ok
