-- What a leaf takes stands at ports that it has.
use Rattle.std.proofs.Common.{◌≡◌, ℕ, zero, suc, ◌+◌, ◌<◌, Some, List, [], ◌∷◌, ◌++◌, map, length, sym, ◌∙◌, ap, subst, arith}
use Rattle.std.specs.Prelude.{slice_get, unwrap_or, ⊤}
use Rattle.std.specs.List.{All, flat_map, enumerate_from, range_with_len}
use Rattle.std.proofs.lemmas.List.{length-map}
use Rattle.std.proofs.lemmas.List.Elements.{All-nil, All-append, All-map}
use Rattle.quantity.specs.declared.value.Value.{Value}
use Rattle.cell_grid.specs.Space.{cell_count}
use Rattle.atomic_face.specs.declared.class.PortNo.{PortNo}
use Rattle.atomic_face.specs.Classes.{Bag}
use Rattle.model_tree.specs.Tree.{Word, Group, Tree, Trees, coupled, cells, atomic, nil, cons, Leaf, name_of, leaf_count}
use Rattle.model_tree.specs.Pull.{class_ports, cell_ports, is_cell, what_links_bring}
use Rattle.model_leaves.specs.LeafTexts.{in_ports}
use Rattle.run_model.specs.Cycle.{output_bags, given_by_leaf, at_port, bag_of}
use Rattle.run_model.specs.Run.{RunState, at_top}
use Rattle.served_tree.specs.Processors.{Node, coupled_node, group_node, leaf_node, Processor, size, processors_from, all_processors_from, processors}
use Rattle.served_tree.specs.Service.{Instant, instant_of}
use Rattle.served_tree.specs.Parts.{Part, no_part, own_of, cell_part, parts_from, all_parts_from, parts, part_at}
use Rattle.served_tree.proofs.Counting.{found-in, found-within}
use Rattle.served_tree.proofs.Placing.{cell_processor, size-is}
use Rattle.served_tree.proofs.Parting.{parts-many}

-- ---- the ports of a bag

abbrev pub IsBelow : ℕ → PortNo × Value → Type 0
IsBelow most o = o.0.0 < most

ports-from : (most a : ℕ) (lists : List (List Value)) → most ≡ a + length lists
    → All (IsBelow most) (flat_map at_port (enumerate_from a lists))
ports-from most a [] e = All-nil (IsBelow most)
ports-from most a (vs ∷ lists) e =
    All-append (IsBelow most) (at_port (a, vs)) (flat_map at_port (enumerate_from (a + 1) lists))
    (All-map (IsBelow most) (λ v. (record { 0 = a }, v)) vs (λ k d lt. omega (arith, e)))
    (ports-from most (a + 1) lists (omega (arith, e)))

ports-below : (most : ℕ) (lists : List (List Value)) → most ≡ length lists
    → All (IsBelow most) (bag_of lists)
ports-below most lists e = ports-from most 0 lists (omega (arith, e))

-- ---- the parts of leaves

abbrev pub FewPorts : Node → Part → Type 0
FewPorts (coupled_node name ins outs links) k = ⊤
FewPorts (group_node g) k = ⊤
FewPorts (leaf_node number leaf) k = All (IsBelow (length (in_ports leaf))) k.takes

abbrev EachHas : List Processor → List Part → Type 0
EachHas [] ks = ⊤
EachHas (p ∷ ps) [] = ⊤
EachHas (p ∷ ps) (k ∷ ks) = FewPorts p.node k × EachHas ps ks

each-append : (ps qs : List Processor) (ks ls : List Part) → length ps ≡ length ks → EachHas ps ks
    → EachHas qs ls → EachHas (ps ++ qs) (ks ++ ls)
each-append [] qs [] ls e h i = i
each-append [] qs (k ∷ ks) ls e h i = absurd (omega (arith, e))
each-append (p ∷ ps) qs [] ls e h i = absurd (omega (arith, e))
each-append (p ∷ ps) qs (k ∷ ks) ls e h i = (h.0, each-append ps qs ks ls (omega (arith, e)) h.1 i)

each-at : (ps : List Processor) (ks : List Part) (n : ℕ) (p : Processor) (k : Part) → EachHas ps ks
    → slice_get ps n ≡ Some p → slice_get ks n ≡ Some k → FewPorts p.node k
each-at [] ks n p k h p-is k-is = absurd cc
each-at (q ∷ ps) [] n p k h p-is k-is = absurd cc
each-at (q ∷ ps) (j ∷ ks) zero p k h p-is k-is =
    let a : q ≡ p = cc in
    let b : j ≡ k = cc in
    subst (λ (x : Processor). FewPorts x.node k) a (subst (FewPorts q.node) b h.0)
each-at (q ∷ ps) (j ∷ ks) (suc n) p k h p-is k-is = each-at ps ks n p k h.1 p-is k-is

module _ (at : Instant) (gave : List Bag) where
  few-cells : (g : Group) (n f : ℕ) (own : Word → List Value) (a k : ℕ)
      → EachHas (map (cell_processor g n f) (range_with_len a k)) (map (cell_part at gave g f own) (range_with_len a k))
  few-cells g n f own a zero = tt
  few-cells g n f own a (suc k) =
      let lists : List (List Value) = map (λ port. what_links_bring g.links (is_cell port a) own (λ p c. []) (λ m. given_by_leaf gave (f + m))) (cell_ports g a) in (
        ports-below (length (cell_ports g a)) lists (sym (length-map (cell_ports g a) (λ port. what_links_bring g.links (is_cell port a) own (λ p c. []) (λ m. given_by_leaf gave (f + m))))),
        few-cells g n f own (a + 1) k,
      )

  mutual
    few-tree : (c : Tree) (n q f : ℕ) (own : Word → List Value)
        → EachHas (processors_from c n q f) (parts_from at gave c f own)
    few-tree (coupled name ins outs children links) n q f own =
        (tt, few-trees children (n + 1) n f (own_of gave links children f own))
    few-tree (cells g) n q f own = (tt, few-cells g n f own 0 (cell_count g.space))
    few-tree (atomic name class settings) n q f own =
        (ports-below (length (class_ports class)) (map own (class_ports class)) (sym (length-map (class_ports class) own)), tt)

    few-trees : (ts : Trees) (n q f : ℕ) (own : Word → Word → List Value)
        → EachHas (all_processors_from ts n q f) (all_parts_from at gave ts f own)
    few-trees nil n q f own = tt
    few-trees (cons c rest) n q f own =
        each-append (processors_from c n q f) (all_processors_from rest (n + size c) q (f + leaf_count c))
        (parts_from at gave c f (own (name_of c))) (all_parts_from at gave rest (f + leaf_count c) own)
        (size-is c n q f ∙ sym (parts-many at gave c f (own (name_of c))))
        (few-tree c n q f (own (name_of c))) (few-trees rest (n + size c) q (f + leaf_count c) own)

-- what a leaf takes in a cycle
pub takes-few : (tree : Tree) (t : ℕ) (s : RunState) (n l : ℕ) (p : Processor) (leaf : Leaf)
    → slice_get (processors tree) n ≡ Some p → p.node ≡ leaf_node l leaf
    → All (IsBelow (length (in_ports leaf))) (part_at (parts tree t s) n).takes
takes-few tree t s n l p leaf p-is node-is =
    let gave = output_bags t s.leaf_states in
    let own = at_top tree t s.events in
    let within = found-within (processors tree) n p p-is in
    let a = size-is tree 0 (size tree) 0 in
    let b = parts-many (instant_of tree t s) gave tree 0 own in
    let k = found-in (parts tree t s) n (omega (arith, within, a, b)) in
    let h = each-at (processors tree) (parts tree t s) n p k.0 (few-tree (instant_of tree t s) gave tree 0 (size tree) 0 own) p-is k.1 in
    let same : part_at (parts tree t s) n ≡ k.0 = ap (λ o. unwrap_or o no_part) k.1 in
    subst (λ (x : Part). All (IsBelow (length (in_ports leaf))) x.takes) (sym same)
    (subst (λ x. FewPorts x k.0) node-is h)
