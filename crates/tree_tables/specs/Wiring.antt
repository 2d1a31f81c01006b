-- Private: who is inside a component, and which links lead where.
use Rattle.std.specs.Prelude.{◌≡◌, ℕ, ℤ, ◌+◌, List, [], map}
use Rattle.std.specs.List.{range_with_len}
use Rattle.cell_grid.specs.Space.{cell_count}
use Rattle.model_tree.specs.declared.component.Coupled.{Coupled}
use Rattle.model_tree.specs.declared.group.CellGroup.{CellGroup}
use Rattle.model_tree.specs.Pull.{is_own}
use Rattle.served_tree.specs.Rows.{group_ref}
use Rattle.tree_tables.specs.declared.wiring.Wiring.{Wiring}
use Rattle.tree_tables.specs.Stations.{row_of}
use Rattle.tree_tables.specs.Children.{numbers_of}
use Rattle.tree_tables.specs.Incoming.{rows_to, AreLinks, AreCoupledLinks}

-- that of a coupled component of this number
pub record IsCoupledWiring (c : Coupled) (number : ℕ) (w : Wiring) : Type 0 where
  pub children : (settings : ℕ → List ℤ)
      → w.children.items ≡ numbers_of c.children.items settings (number + 1)
  pub links : AreCoupledLinks c w.children.items w.links
  pub outs : map row_of w.outs.items
      ≡ rows_to w.links.outward.items w.links.arrivals is_own c.outs.items

-- that of a group of this number
pub record IsGroupWiring (g : CellGroup) (number : ℕ) (w : Wiring) : Type 0 where
  pub children : w.children.items ≡ range_with_len (number + 1) (cell_count g.grid)
  pub links : AreLinks w.links (group_ref w.children.items [])
      (group_ref w.children.items g.ins.items) g.links.items
  pub outs : map row_of w.outs.items
      ≡ rows_to w.links.outward.items w.links.arrivals is_own g.outs.items
