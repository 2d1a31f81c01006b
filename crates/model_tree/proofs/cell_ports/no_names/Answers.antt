use Rattle.std.proofs.Common.{rules, ◌≡◌, ◌++◌, [], ◌∷◌}
use Rattle.model_tree.proofs.CellNames.{none-more}
use Rattle.model_tree.proofs.cell_ports.no_names.Goals as goal

pub loop-cell-preserved : goal.loop-cell-preserved
loop-cell-preserved c =
    let items : c.push.new.self.items ≡ c.loop-cell.all.items ++ c.new.result ∷ [] = search rules in
    none-more (λ v. v.items) c.loop-cell.all.items c.push.new.self.items c.new.result c.loop-cell._cell items c.new.ensures.items c.loop-cell.invariant
