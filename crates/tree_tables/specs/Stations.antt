-- The processors of a model with what the tables have of each.
use Rattle.std.specs.Prelude.{ℕ, Option, Some, None, List, [], map, Vec}
use Rattle.std.specs.declared.alloc.Global.{Global}
use Rattle.model_tree.specs.Tree.{Group, Tree, atomic_leaf, cell_leaf}
use Rattle.served_tree.specs.Processors.{Node, coupled_node, group_node, leaf_node, Processor, processors, at_processor}
use Rattle.served_tree.specs.Rows.{Ref, own_input, output_of, out_rows, in_rows, cell_rows}
use Rattle.tree_tables.specs.declared.entry.Ref as code
use Rattle.tree_tables.specs.declared.entry.Ref.TheVariants as lent
use Rattle.tree_tables.specs.declared.entry.Entry.{Entry}

-- a processor: its parent, its children, the leaf that it is, and where the links into each of its
-- output ports and of its input ports begin
pub record Station : Type 0 where
  pub parent : ℕ
  pub children : List ℕ
  pub leaf : Option ℕ
  pub outs : List (List Ref)
  pub ins : List (List Ref)

-- ---- of a model

-- the leaf that a node is
abbrev pub leaf_of_node : Node → Option ℕ
leaf_of_node (coupled_node name ins outs links) = None
leaf_of_node (group_node g) = None
leaf_of_node (leaf_node number leaf) = Some number

-- the rows at the input ports of a node in a group: those of a cell
abbrev pub rows_of_cell : List ℕ → Group → Node → List (List Ref)
rows_of_cell children g (coupled_node name ins outs links) = []
rows_of_cell children g (group_node h) = []
rows_of_cell children g (leaf_node number (atomic_leaf name class settings)) = []
rows_of_cell children g (leaf_node number (cell_leaf h first cell)) = cell_rows children g cell

-- the rows at the input ports of a node in a processor
abbrev pub rows_into : List Processor → Processor → Node → List (List Ref)
rows_into ps q node = by q.node
  where
    by : Node → List (List Ref)
    by (coupled_node name ins outs links) = in_rows ps q.children ins links node
    by (group_node g) = rows_of_cell q.children g node
    by (leaf_node number leaf) = []

-- a processor among others
abbrev pub station_of : List Processor → Processor → Station
station_of ps p =
    record {
      parent = p.parent;
      children = p.children;
      leaf = leaf_of_node p.node;
      outs = out_rows ps p;
      ins = at_processor ps p.parent [] (λ q. rows_into ps q p.node);
    }

-- the processors of a model
abbrev pub stations : Tree → List Station
stations t = map (station_of (processors t)) (processors t)

-- ---- of the tables

abbrev pub ref_of : code.Ref → Ref
ref_of (lent.OwnInput port) = own_input port
ref_of (lent.OutputOf processor port) = output_of processor port

abbrev pub row_of : Vec code.Ref Global → List Ref
row_of row = map ref_of row.items

abbrev pub station_in : Entry → Station
station_in e =
    record {
      parent = e.parent;
      children = e.children.items;
      leaf = e.leaf;
      outs = map row_of e.outs.items;
      ins = map row_of e.ins.items;
    }
