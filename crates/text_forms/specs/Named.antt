-- Records that name leaves and ports of a model.
use Rattle.std.specs.Prelude.{ℕ, ◌<◌, List, length}
use Rattle.std.specs.List.{All}
use Rattle.model_leaves.specs.declared.table.Model.{Model}
use Rattle.model_tree.specs.Tree.{Word, Leaf}
use Rattle.model_leaves.specs.LeafTexts.{in_ports, out_ports}
use Rattle.model_leaves.specs.Leaves.{IsLeafOf, AtLeaf}
use Rattle.text_forms.specs.declared.records.YRecord.{YRecord}
use Rattle.text_forms.specs.declared.records.XRecord.{XRecord}
use Rattle.text_forms.specs.declared.records.SRecord.{SRecord}
use Rattle.text_forms.specs.declared.records.Records.{Records}

-- there is such a leaf, and among these ports of it one of this number
pub record HasPort (m : Model) (ports : Leaf → List Word) (leaf port : ℕ) : Type 0 where
  pub leaf_there : IsLeafOf m leaf
  pub port_there : AtLeaf m leaf (λ l. port < length (ports l))

-- each record of a log names a leaf, and a port of it, that there are
pub record NamesLeaves (m : Model) (records : Records) : Type 0 where
  pub y : All (λ (r : YRecord). HasPort m out_ports r.leaf r.port.0) records.y.items
  pub n : All (λ (r : YRecord). HasPort m out_ports r.leaf r.port.0) records.n.items
  pub x : All (λ (r : XRecord). HasPort m in_ports r.leaf r.port.0) records.x.items
  pub s : All (λ (r : SRecord). IsLeafOf m r.leaf) records.s.items
