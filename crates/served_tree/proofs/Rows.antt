-- What rows read is what links bring.
use Rattle.std.proofs.Common.{◌≡◌, ℕ, Bool, true, false, Option, Some, None, List, [], ◌∷◌, ◌++◌, map, refl, ◌∙◌, ap}
use Rattle.std.specs.Prelude.{slice_get, if◌then◌else◌}
use Rattle.std.specs.List.{filter, filter_map, flat_map, cons_option, position}
use Rattle.std.specs.Option.{option_map}
use Rattle.std.specs.Str.{bytes_eq}
use Rattle.quantity.specs.declared.value.Value.{Value}
use Rattle.atomic_face.specs.Classes.{Bag}
use Rattle.model_tree.specs.declared.link.End.{End}
use Rattle.model_tree.specs.declared.link.End.TheVariants.{Own, Child, Cell}
use Rattle.model_tree.specs.declared.link.Link.{Link}
use Rattle.model_tree.specs.Tree.{Word}
use Rattle.model_tree.specs.Pull.{is_own, is_child, is_cell, cell_ports, at_source, what_links_bring, nothing}
use Rattle.run_model.specs.Cycle.{bag_of}
use Rattle.served_tree.specs.Processors.{Node, coupled_node, group_node, leaf_node, Processor, node_name, node_ins, out_number}
use Rattle.served_tree.specs.Service.{Kept, Instant, gave_of, at_number, at_found, at_own, child_gave, cell_gave, bag_at_outputs}
use Rattle.served_tree.specs.Rows.{Ref, own_input, output_of, child_ref, cell_ref, link_ref, group_ref, refs_into, values_at_ref, read_rows, out_rows, RowsBring}

module _ (kept : List Kept) (bag : Bag) where
  -- what stands where a link begins, if it begins anywhere
  abbrev read_if : Option Ref → List Value
  read_if None = []
  read_if (Some r) = values_at_ref bag kept r

  own-read : (o : Option ℕ) → read_if (option_map own_input o) ≡ at_found bag o
  own-read None = refl
  own-read (Some k) = refl

  given-read : (n : ℕ) (o : Option ℕ)
      → read_if (option_map (output_of n) o) ≡ at_found (gave_of kept n) o
  given-read n None = refl
  given-read n (Some k) = refl

  first-read : (n : ℕ) (b : Bool) (o : Option ℕ) (rest : Option Ref) (values : List Value)
      → read_if rest ≡ values
      → read_if (if b then option_map (output_of n) o else rest) ≡ (if b then at_found (gave_of kept n) o else values)
  first-read n true o rest values e = given-read n o
  first-read n false o rest values e = e

  module _ (at : Instant) where
    child-read : (ns : List ℕ) (port child : Word)
        → read_if (child_ref at.processors ns port child) ≡ child_gave at kept ns port child
    child-read [] port child = refl
    child-read (n ∷ ns) port child = by (slice_get at.processors n) (child-read ns port child)
      where
        by : (o : Option Processor)
            → read_if (child_ref at.processors ns port child) ≡ child_gave at kept ns port child
            → read_if (elim o [ None ↦ None | Some p ↦ if bytes_eq (node_name p.node) child then option_map (output_of n) (out_number p.node port) else child_ref at.processors ns port child ])
            ≡ elim o [ None ↦ [] | Some p ↦ if bytes_eq (node_name p.node) child then at_found (gave_of kept n) (out_number p.node port) else child_gave at kept ns port child ]
        by None rest = refl
        by (Some p) rest = first-read n (bytes_eq (node_name p.node) child) (out_number p.node port) (child_ref at.processors ns port child) (child_gave at kept ns port child) rest

    link-read : (children : List ℕ) (ins : List Word) (e : End)
        → read_if (link_ref at.processors children ins e) ≡ at_source e (at_own ins bag) (child_gave at kept children) nothing
    link-read children ins (Own p) = own-read (position (bytes_eq p) ins)
    link-read children ins (Child p c) = child-read children p c
    link-read children ins (Cell p n) = refl

  cell-read : (children : List ℕ) (n : ℕ)
      → read_if (cell_ref children n) ≡ at_number (cell_gave kept children n) 0
  cell-read children n = by (slice_get children n)
    where
      by : (o : Option ℕ)
          → read_if (option_map (λ k. output_of k 0) o) ≡ at_number (elim o [ None ↦ [] | Some k ↦ gave_of kept k ]) 0
      by None = refl
      by (Some k) = refl

  group-read : (children : List ℕ) (ins : List Word) (e : End)
      → read_if (group_ref children ins e) ≡ at_source e (at_own ins bag) (λ q c. []) (λ m. at_number (cell_gave kept children m) 0)
  group-read children ins (Own p) = own-read (position (bytes_eq p) ins)
  group-read children ins (Child p c) = refl
  group-read children ins (Cell p n) = cell-read children n

  -- one more link
  more-read : (o : Option Ref) (rest : List Ref)
      → flat_map (values_at_ref bag kept) (cons_option o rest) ≡ read_if o ++ flat_map (values_at_ref bag kept) rest
  more-read None rest = refl
  more-read (Some r) rest = refl

  row-read : (begins : End → Option Ref) (own : Word → List Value) (child : Word → Word → List Value) (cell : ℕ → List Value)
      → ((e : End) → read_if (begins e) ≡ at_source e own child cell)
      → (ls : List Link) → flat_map (values_at_ref bag kept) (filter_map (λ (l : Link). begins l.from) ls) ≡ flat_map (λ (l : Link). at_source l.from own child cell) ls
  row-read begins own child cell same [] = refl
  row-read begins own child cell same (l ∷ ls) =
      more-read (begins l.from) (filter_map (λ (k : Link). begins k.from) ls)
      ∙ (λ i. same l.from i ++ row-read begins own child cell same ls i)

rows-same : (kept : List Kept) (bag : Bag) (rows : Word → List Ref) (lists : Word → List Value)
    → ((port : Word) → flat_map (values_at_ref bag kept) (rows port) ≡ lists port) → (ports : List Word)
    → map (flat_map (values_at_ref bag kept)) (map rows ports) ≡ map lists ports
rows-same kept bag rows lists same [] = refl
rows-same kept bag rows lists same (p ∷ ps) = λ i. same p i ∷ rows-same kept bag rows lists same ps i

-- no port of no names has a place
none-own : (port : Word) → at_own [] [] port ≡ []
none-own port = refl

outputs-read : (at : Instant) (kept : List Kept) (node : Node) (parent : ℕ) (children : List ℕ)
    → (let p : Processor = record { node = node; parent = parent; children = children } in read_rows [] kept (out_rows at.processors p) ≡ bag_at_outputs at kept p)
outputs-read at kept (coupled_node name ins outs links) parent children =
    ap bag_of (rows-same kept []
    (λ port. refs_into (link_ref at.processors children []) links (is_own port))
    (λ port. what_links_bring links (is_own port) nothing (child_gave at kept children) nothing)
    (λ port. row-read kept [] (link_ref at.processors children []) nothing (child_gave at kept children) nothing (link-read kept [] at children []) (filter (λ (l : Link). is_own port l.to) links))
    outs)
outputs-read at kept (group_node g) parent children =
    ap bag_of (rows-same kept []
    (λ port. refs_into (group_ref children []) g.links (is_own port))
    (λ port. what_links_bring g.links (is_own port) nothing (λ q c. []) (λ m. at_number (cell_gave kept children m) 0))
    (λ port. row-read kept [] (group_ref children []) nothing (λ q c. []) (λ m. at_number (cell_gave kept children m) 0) (group-read kept [] children []) (filter (λ (l : Link). is_own port l.to) g.links))
    g.outs)
outputs-read at kept (leaf_node number leaf) parent children = refl

pub rows-bring : RowsBring
rows-bring =
    record {
      outputs = λ at kept p. outputs-read at kept p.node p.parent p.children;
      inputs = λ at kept children ins links bag child.
          ap bag_of (rows-same kept bag
          (λ port. refs_into (link_ref at.processors children ins) links (is_child port (node_name child)))
          (λ port. what_links_bring links (is_child port (node_name child)) (at_own ins bag) (child_gave at kept children) nothing)
          (λ port. row-read kept bag (link_ref at.processors children ins) (at_own ins bag) (child_gave at kept children) nothing (link-read kept bag at children ins) (filter (λ (l : Link). is_child port (node_name child) l.to) links))
          (node_ins child));
      cells = λ kept children g bag cell.
          ap bag_of (rows-same kept bag
          (λ port. refs_into (group_ref children g.ins) g.links (is_cell port cell))
          (λ port. what_links_bring g.links (is_cell port cell) (at_own g.ins bag) (λ q c. []) (λ m. at_number (cell_gave kept children m) 0))
          (λ port. row-read kept bag (group_ref children g.ins) (at_own g.ins bag) (λ q c. []) (λ m. at_number (cell_gave kept children m) 0) (group-read kept bag children g.ins) (filter (λ (l : Link). is_cell port cell l.to) g.links))
          (cell_ports g cell));
    }
