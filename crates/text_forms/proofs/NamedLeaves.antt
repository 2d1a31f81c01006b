-- The records of a cycle name leaves and ports of the model.
use Rattle.std.proofs.Common.{◌≡◌, ℕ, zero, suc, ◌<◌, Option, Some, None, List, [], ◌∷◌, refl, sym, ◌∙◌, subst, arith, length, slice_get, get_or}
use Rattle.std.specs.List.{All}
use Rattle.std.specs.Option.{IsSomeAnd}
use Rattle.std.proofs.lemmas.Option.{slice_get_within}
use Rattle.std.proofs.lemmas.List.Elements.{All-map}
use Rattle.model_leaves.specs.declared.table.Model.{Model}
use Rattle.model_tree.specs.Tree.{Word, Leaf, atomic_leaf, cell_leaf, leaves, groups}
use Rattle.model_leaves.specs.Models.{tree_of}
use Rattle.model_leaves.specs.LeafTexts.{in_ports, out_ports}
use Rattle.model_leaves.specs.Leaves.{Settings, IsLeafOf, no_settings}
use Rattle.model_leaves.proofs.Read.{rows-length, leaves-length, row-parts, told-ins, told-outs}
use Rattle.run_model.specs.Run.{PortRecord, StateRecord}
use Rattle.run_model.specs.Fitting.{OfLeaf, IsFurtherPort, IsInPort, IsStateValue}
use Rattle.text_forms.specs.declared.records.YRecord.{YRecord}
use Rattle.text_forms.specs.declared.records.XRecord.{XRecord}
use Rattle.text_forms.specs.declared.records.SRecord.{SRecord}
use Rattle.text_forms.specs.Held.{y_at, x_at, s_at}
use Rattle.text_forms.specs.Named.{HasPort}
use Rattle.text_forms.specs.CycleNames.{HasPortValues, CyclesNameLeaves}

some_and : {A : Type 0} (o : Option A) (P : A → Type 0) → IsSomeAnd o P → (x : A) × (o ≡ Some x) × P x
some_and None P h = absurd h
some_and (Some x) P h = (x, refl, h)

row_at : {A : Type 0} (rs : List A) (k : ℕ) → k < length rs → (r : A) × (slice_get rs k ≡ Some r)
row_at [] k h = absurd (omega arith)
row_at (r ∷ rs) zero h = (r, refl)
row_at (r ∷ rs) (suc k) h = row_at rs k (omega arith)

module _ (m : Model) (settings : Settings) (k : ℕ) (l : Leaf) (is : slice_get (leaves (tree_of m settings)) k ≡ Some l) where
  within : k < length m.rows
  within = let lt = slice_get_within (leaves (tree_of m settings)) k l is in omega (arith, lt, rows-length m settings, leaves-length (tree_of m settings) 0)

  leaf_there : IsLeafOf m k
  leaf_there = let lt = within in omega (arith, lt, rows-length m no_settings)

  same_ports : (others : Settings) (n : Leaf) → slice_get (leaves (tree_of m others)) k ≡ Some n → (out_ports l ≡ out_ports n) × (in_ports l ≡ in_ports n)
  same_ports others n e =
      let r = row_at m.rows k within in
      let p = row-parts m k r.0 r.1 in
      let a = p.4 settings l is in
      let b = p.4 others n e in (
        sym (told-outs settings (groups (tree_of m settings)) p.0.at p.0.name r.0.cell p.1 l a) ∙ told-outs others (groups (tree_of m others)) p.0.at p.0.name r.0.cell p.1 n b,
        sym (told-ins settings (groups (tree_of m settings)) p.0.at p.0.name r.0.cell p.1 l a) ∙ told-ins others (groups (tree_of m others)) p.0.at p.0.name r.0.cell p.1 n b,
      )

  has_out : (port : ℕ) → port < length (out_ports l) → HasPort m out_ports k port
  has_out port h = record { leaf_there = leaf_there; port_there = λ others n e. subst (λ (ports : List Word). port < length ports) (same_ports others n e).0 h }

  has_in : (port : ℕ) → port < length (in_ports l) → HasPort m in_ports k port
  has_in port h = record { leaf_there = leaf_there; port_there = λ others n e. subst (λ (ports : List Word). port < length ports) (same_ports others n e).1 h }

out_zero : (l : Leaf) (port : ℕ) → port ≡ 0 → port < length (out_ports l)
out_zero l port e = omega (arith, e)

out_further : (l : Leaf) (port : ℕ) → HasPortValues l → IsFurtherPort l port → port < length (out_ports l)
out_further (atomic_leaf name class settings) port v h = absurd h
out_further (cell_leaf g first cell) port v h = let le = h.1 in omega (arith, le, v)

in_port : (l : Leaf) (port : ℕ) → IsInPort l port → port < length (in_ports l)
in_port (atomic_leaf name class settings) port h = h
in_port (cell_leaf g first cell) port h = h

module _ (m : Model) (settings : Settings) (values : (k : ℕ) (l : Leaf) → slice_get (leaves (tree_of m settings)) k ≡ Some l → HasPortValues l) where
  y_named : (r : PortRecord) → OfLeaf (tree_of m settings) r.leaf (λ l. r.port ≡ 0) → HasPort m out_ports r.leaf r.port
  y_named r h =
      let s = some_and (slice_get (leaves (tree_of m settings)) r.leaf) (λ l. r.port ≡ 0) h in
      has_out m settings r.leaf s.0 s.1 r.port (out_zero s.0 r.port s.2)

  n_named : (r : PortRecord) → OfLeaf (tree_of m settings) r.leaf (λ l. IsFurtherPort l r.port) → HasPort m out_ports r.leaf r.port
  n_named r h =
      let s = some_and (slice_get (leaves (tree_of m settings)) r.leaf) (λ l. IsFurtherPort l r.port) h in
      has_out m settings r.leaf s.0 s.1 r.port (out_further s.0 r.port (values r.leaf s.0 s.1) s.2)

  x_named : (r : PortRecord) → OfLeaf (tree_of m settings) r.leaf (λ l. IsInPort l r.port) → HasPort m in_ports r.leaf r.port
  x_named r h =
      let s = some_and (slice_get (leaves (tree_of m settings)) r.leaf) (λ l. IsInPort l r.port) h in
      has_in m settings r.leaf s.0 s.1 r.port (in_port s.0 r.port s.2)

  s_named : (r : StateRecord) → OfLeaf (tree_of m settings) r.leaf (λ l. IsStateValue l r.value) → IsLeafOf m r.leaf
  s_named r h =
      let s = some_and (slice_get (leaves (tree_of m settings)) r.leaf) (λ l. IsStateValue l r.value) h in
      leaf_there m settings r.leaf s.0 s.1

pub cycles_name_leaves : CyclesNameLeaves
cycles_name_leaves m settings records c values n h =
    record {
      y = subst (All (λ (r : YRecord). HasPort m out_ports r.leaf r.port.0)) (sym h.y)
          (All-map (λ (r : YRecord). HasPort m out_ports r.leaf r.port.0) (y_at c.time) c.y (λ k d lt. y_named m settings values (get_or c.y k d) (n.y k d lt)));
      n = subst (All (λ (r : YRecord). HasPort m out_ports r.leaf r.port.0)) (sym h.n)
          (All-map (λ (r : YRecord). HasPort m out_ports r.leaf r.port.0) (y_at c.time) c.n (λ k d lt. n_named m settings values (get_or c.n k d) (n.n k d lt)));
      x = subst (All (λ (r : XRecord). HasPort m in_ports r.leaf r.port.0)) (sym h.x)
          (All-map (λ (r : XRecord). HasPort m in_ports r.leaf r.port.0) (x_at c.time) c.x (λ k d lt. x_named m settings values (get_or c.x k d) (n.x k d lt)));
      s = subst (All (λ (r : SRecord). IsLeafOf m r.leaf)) (sym h.s)
          (All-map (λ (r : SRecord). IsLeafOf m r.leaf) (s_at c.time) c.s (λ k d lt. s_named m settings values (get_or c.s k d) (n.s k d lt)));
    }
