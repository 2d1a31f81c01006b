use Rattle.std.proofs.Common.{◌≡◌, ◌+◌, map, ap, ◌∙◌, subst}
use Rattle.std.proofs.lemmas.Result.{on_ok_weaker}
use Rattle.model_tree.specs.Stands.{group_of}
use Rattle.model_tree.specs.CellPorts.{ports_of_cells}
use Rattle.model_tree.proofs.CellNames.{cells-count}
use Rattle.tree_tables.specs.Walk.{PutsBehind, cell_stations}
use Rattle.tree_tables.proofs.tables.put_cells_of.Goals as goal

pub returns-clause-cells : goal.returns-clause-cells
returns-clause-cells c =
    let old = c.args.table.now in
    let names : map (λ v. v.items) c.deref.result.now ≡ ports_of_cells (group_of c.args.group.now) =
    ap (map (λ v. v.items)) c.deref.ensures.value ∙ c.in_ok-names.ensures in
    on_ok_weaker c.put_cells.result
    (subst (λ all. PutsBehind old c.put_cells.new.table (cell_stations c.args.links.now c.args.parent old.leaves all)) names)
    c.put_cells.ensures.cells

pub returns-clause-leaves : goal.returns-clause-leaves
returns-clause-leaves c =
    let names : map (λ v. v.items) c.deref.result.now ≡ ports_of_cells (group_of c.args.group.now) =
    ap (map (λ v. v.items)) c.deref.ensures.value ∙ c.in_ok-names.ensures in
    on_ok_weaker c.put_cells.result
    (λ h. h ∙ ap (λ n. c.args.table.now.leaves + n) (cells-count (λ v. v.items) c.deref.result.now (group_of c.args.group.now) names))
    c.put_cells.ensures.leaves
