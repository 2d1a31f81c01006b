-- The tables of a model have its processors.
use Rattle.std.proofs.Common.{◌≡◌, ℕ, Option, Some, None, List, [], map, length, refl, sym, ◌∙◌, ap}
use Rattle.std.specs.Prelude.{slice_get}
use Rattle.std.specs.Option.{option_map}
use Rattle.std.proofs.lemmas.List.{length-map}
use Rattle.std.proofs.lemmas.Option.{slice_get-map}
use Rattle.model_tree.specs.Tree.{Tree, Leaf}
use Rattle.tree_tables.specs.declared.entry.Entry.{Entry}
use Rattle.tree_tables.specs.Stations.{Station, leaf_of_node, row_of, rows_into, station_of, stations, station_in}
use Rattle.served_tree.specs.Processors.{Node, coupled_node, group_node, leaf_node, Processor, size, processors, at_processor}
use Rattle.served_tree.specs.Rows.{out_rows}
use Rattle.served_tree.specs.Course.{parent_in}
use Rattle.served_tree.specs.Order as order
use Rattle.served_tree.specs.Service.{Message, collect, output, transition, done, Instant}
use Rattle.served_tree.proofs.Placing.{size-is}
use Rattle.tree_mail.specs.Mail.{parent_at, served_by_tables}
use Rattle.tree_serve.proofs.Leaves.{pair_of}

-- one that is made of another by a function is made of something
mapped-from : {X Y : Type 0} (f : X → Y) (o : Option X) (y : Y) → option_map f o ≡ Some y
    → (x : X) × (o ≡ Some x) × (f x ≡ y)
mapped-from f None y is = absurd cc
mapped-from f (Some x) y is = (x, refl, cc)

module _ (tree : Tree) (entries : List Entry) (are : map station_in entries ≡ stations tree) where
  abbrev ps : List Processor
  ps = processors tree

  pub many : length entries ≡ length ps
  many =
      sym (length-map entries station_in) ∙ ap length are ∙ length-map ps (station_of ps)

  pub as-many : length entries ≡ size tree
  as-many = many ∙ size-is tree 0 (size tree) 0

  same-at : (n : ℕ) → option_map station_in (slice_get entries n) ≡ option_map (station_of ps) (slice_get ps n)
  same-at n =
      sym (slice_get-map station_in entries n) ∙ ap (λ ss. slice_get ss n) are
      ∙ slice_get-map (station_of ps) ps n

  -- the processor of an entry, and the entry of a processor
  pub processor-at : (n : ℕ) (e : Entry) → slice_get entries n ≡ Some e
      → (p : Processor) × (slice_get ps n ≡ Some p) × (station_of ps p ≡ station_in e)
  processor-at n e is =
      mapped-from (station_of ps) (slice_get ps n) (station_in e)
      (sym (same-at n) ∙ ap (option_map station_in) is)

  pub entry-at : (n : ℕ) (p : Processor) → slice_get ps n ≡ Some p
      → (e : Entry) × (slice_get entries n ≡ Some e) × (station_in e ≡ station_of ps p)
  entry-at n p is =
      mapped-from station_in (slice_get entries n) (station_of ps p)
      (same-at n ∙ ap (option_map (station_of ps)) is)

  -- where there is no entry, there is no processor
  none-mapped : (o : Option Entry) (q : Option Processor)
      → option_map station_in o ≡ option_map (station_of ps) q → o ≡ None → q ≡ None
  none-mapped None None is none = refl
  none-mapped None (Some p) is none = absurd cc
  none-mapped (Some e) q is none = absurd cc

  pub no-processor : (n : ℕ) → slice_get entries n ≡ None → slice_get ps n ≡ None
  no-processor n none = none-mapped (slice_get entries n) (slice_get ps n) (same-at n) none

  -- the parent of a processor
  parents-same : (o : Option Entry) (q : Option Processor)
      → option_map station_in o ≡ option_map (station_of ps) q
      → ◌≡◌ {A = ℕ} (elim o [ None ↦ 0 | Some e ↦ e.parent ]) (elim q [ None ↦ 0 | Some p ↦ p.parent ])
  parents-same None None is = refl
  parents-same None (Some p) is = absurd cc
  parents-same (Some e) None is = absurd cc
  parents-same (Some e) (Some p) is =
      let same : station_in e ≡ station_of ps p = cc in
      ap (λ (s : Station). s.parent) same

  pub parent-same : (n : ℕ) → parent_at entries n ≡ parent_in ps n
  parent-same n = parents-same (slice_get entries n) (slice_get ps n) (same-at n)

  pub children-of : (e : Entry) (p : Processor) → station_in e ≡ station_of ps p
      → e.children.items ≡ p.children
  children-of e p same = ap (λ (s : Station). s.children) same

  pub leaf-of : (e : Entry) (p : Processor) → station_in e ≡ station_of ps p
      → e.leaf ≡ leaf_of_node p.node
  leaf-of e p same = ap (λ (s : Station). s.leaf) same

  pub outs-of : (e : Entry) (p : Processor) → station_in e ≡ station_of ps p
      → map row_of e.outs.items ≡ out_rows ps p
  outs-of e p same = ap (λ (s : Station). s.outs) same

  pub ins-of : (e : Entry) (p : Processor) → station_in e ≡ station_of ps p
      → map row_of e.ins.items ≡ at_processor ps p.parent [] (λ q. rows_into ps q p.node)
  ins-of e p same = ap (λ (s : Station). s.ins) same

  -- a message is served by whom the tables say
  pub told-same : (at : Instant) (m : Message) → at.processors ≡ ps
      → served_by_tables entries m ≡ order.served_by at m
  told-same at (collect to) same = refl
  told-same at (output from bag) same =
      ap (λ n. record { processor = n; kind = order.an_output; next = None })
      (parent-same from ∙ ap (λ xs. parent_in xs from) (sym same))
  told-same at (transition to bag woken) same = refl
  told-same at (done from next stop) same =
      ap (λ n. record { processor = n; kind = order.a_done; next = next })
      (parent-same from ∙ ap (λ xs. parent_in xs from) (sym same))

-- ---- leaves of nodes

-- the number of a leaf is that of its pair
pub leaf-node : (x : Node) (l : ℕ) → leaf_of_node x ≡ Some l → (leaf : Leaf) × (pair_of x ≡ Some (l, leaf))
leaf-node (coupled_node name ins outs links) l is = absurd cc
leaf-node (group_node g) l is = absurd cc
leaf-node (leaf_node number leaf) l is =
    let same : number ≡ l = cc in
    (leaf, ap (λ n. Some (n, leaf)) same)

pub pair-leaf : (x : Node) (l : ℕ) (leaf : Leaf) → pair_of x ≡ Some (l, leaf) → leaf_of_node x ≡ Some l
pair-leaf (coupled_node name ins outs links) l leaf is = absurd cc
pair-leaf (group_node g) l leaf is = absurd cc
pair-leaf (leaf_node number other) l leaf is =
    let p : ◌≡◌ {A = ℕ × Leaf} (number, other) (l, leaf) = cc in
    ap (λ (q : ℕ × Leaf). Some q.0) p

pub pair-node : (x : Node) (l : ℕ) (leaf : Leaf) → pair_of x ≡ Some (l, leaf) → x ≡ leaf_node l leaf
pair-node (coupled_node name ins outs links) l leaf is = absurd cc
pair-node (group_node g) l leaf is = absurd cc
pair-node (leaf_node number other) l leaf is =
    let p : ◌≡◌ {A = ℕ × Leaf} (number, other) (l, leaf) = cc in
    ap (λ (q : ℕ × Leaf). leaf_node q.0 q.1) p
