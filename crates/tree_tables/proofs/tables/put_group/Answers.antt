use Rattle.std.proofs.Common.{◌≡◌, ◌+◌, ◌∙◌, length, map, refl, ap, subst}
use Rattle.std.specs.List.{range_with_len}
use Rattle.std.proofs.lemmas.Result.{on_ok_weaker}
use Rattle.cell_grid.specs.Space.{cell_count}
use Rattle.model_tree.specs.Stands.{group_of}
use Rattle.model_tree.specs.CellPorts.{ports_of_cells}
use Rattle.tree_tables.specs.Stations.{row_of}
use Rattle.tree_tables.specs.Walk.{PutsBehind, cell_stations}
use Rattle.tree_tables.proofs.Put.{puts-group}
use Rattle.tree_tables.proofs.tables.put_group.Goals as goal

pub returns-clause-takes : goal.returns-clause-takes
returns-clause-takes c =
    on_ok_weaker c.put_cells_of.result (λ h settings ps stands.
    let g = c.args.group.now in
    let old = c.args.table.now in
    let mid = c.component.new.self in
    let new = c.put_cells_of.new.table in
    let number : c.in_ok-number.number ≡ length old.entries.items = c.in_ok-number.ensures in
    let names = ports_of_cells (group_of g) in
    let wiring = c.in_ok-wiring.wiring in
    let is = c.in_ok-wiring.ensures in
    puts-group g ps c.args.parent (map row_of c.args.ins.items) (map row_of wiring.outs.items) old mid new wiring.children.items wiring.links names stands
    (is.children ∙ ap (λ n. range_with_len (n + 1) (cell_count g.grid)) number) is.links is.outs refl
    c.in_ok-component.ensures.entries c.component.ensures.leaves
    (subst (λ k. PutsBehind mid new (cell_stations wiring.links k mid.leaves names)) number h))
    c.put_cells_of.ensures.cells
