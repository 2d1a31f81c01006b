-- The children of a component: the cells of a group, or components of a coupled one.
use Rattle.std.proofs.Common.{◌≡◌, inl, inr, ℕ, ◌+◌, ◌<◌, ◌≤◌, Some, List, refl, sym, ◌∙◌, ap, subst, arith}
use Rattle.std.specs.Prelude.{slice_get, ⊤}
use Rattle.std.specs.List.{range_with_len}
use Rattle.std.proofs.lemmas.Bool.{cases_eq}
use Rattle.cell_grid.specs.Space.{cell_count}
use Rattle.model_tree.specs.Tree.{Tree, Trees, coupled, cells, atomic, nil, cons, atomic_leaf, cell_leaf, leaf_count}
use Rattle.served_tree.specs.Processors.{Node, coupled_node, group_node, leaf_node, Processor, size, child_numbers, processors_from, all_processors_from, processors}
use Rattle.served_tree.specs.Places.{ContainsFrom, node_of}
use Rattle.served_tree.specs.Course.{times}
use Rattle.served_tree.proofs.Times.{one_if-other}
use Rattle.served_tree.proofs.Lists.{stands-itself, stands-range, AllFrom, all-from-append, all-from-at, all-from-range}
use Rattle.served_tree.proofs.Placing.{cell_processor, size-is, split-off, head-at}

-- a component, and no cell
abbrev pub NoCell : Node → Type 0
NoCell (coupled_node name ins outs links) = ⊤
NoCell (group_node g) = ⊤
NoCell (leaf_node number (atomic_leaf name class settings)) = ⊤
NoCell (leaf_node number (cell_leaf g first cell)) = ⊥

-- the children of a coupled component are components, and those of a group its cells
abbrev pub KindOf : List Processor → ℕ → List ℕ → Node → Type 0
KindOf ps n children (coupled_node name ins outs links) =
    (x : ℕ) → 1 ≤ times x children → (p : Processor) × (slice_get ps x ≡ Some p) × NoCell p.node
KindOf ps n children (group_node g) =
    (f : ℕ) × (children ≡ range_with_len (n + 1) (cell_count g.space))
    × ((j : ℕ) → j < cell_count g.space → slice_get ps ((n + 1) + j) ≡ Some (cell_processor g n f j))
KindOf ps n children (leaf_node number leaf) = ⊤

abbrev pub HasKind : List Processor → ℕ → Processor → Type 0
HasKind ps n p = KindOf ps n p.children p.node

no-cell : (c : Tree) (f : ℕ) → NoCell (node_of c f)
no-cell (coupled name ins outs children links) f = tt
no-cell (cells g) f = tt
no-cell (atomic name class settings) f = tt

module _ (ps : List Processor) where
  child-kind : (ts : Trees) (m q f x : ℕ) → ContainsFrom ps m (all_processors_from ts m q f)
      → 1 ≤ times x (child_numbers ts m)
      → (p : Processor) × (slice_get ps x ≡ Some p) × NoCell p.node
  child-kind nil m q f x h le = absurd (omega (arith, le))
  child-kind (cons c rest) m q f x h le =
      let s = split-off ps c rest m q f h in
      elim (cases_eq m x) [
        | inl e ↦
            let head = head-at ps c m q f s.0 in
            (head.0, ap (slice_get ps) (sym e) ∙ head.1, subst NoCell (sym head.2) (no-cell c f))
        | inr ne ↦ child-kind rest (m + size c) q (f + leaf_count c) x s.1 (omega (arith, le, one_if-other x m ne))
      ]

  mutual
    kind-tree : (c : Tree) (n q f : ℕ) → ContainsFrom ps n (processors_from c n q f)
        → AllFrom (HasKind ps) n (processors_from c n q f)
    kind-tree (coupled name ins outs children links) n q f h =
        (λ x le. child-kind children (n + 1) n f x h.1 le, kind-trees children (n + 1) n f h.1)
    kind-tree (cells g) n q f h = (
      (
        f,
        refl,
        λ j lt.
            stands-range ps (n + 1) (cell_processor g n f) 0 (cell_count g.space) j h.1 lt
            ∙ ap (λ i. Some (cell_processor g n f i)) (let e : 0 + j ≡ j = omega arith in e),
      ),
      all-from-range (HasKind ps) (n + 1) (cell_processor g n f) 0 (cell_count g.space) (λ j lt. tt),
    )
    kind-tree (atomic name class settings) n q f h = (tt, tt)

    kind-trees : (ts : Trees) (n q f : ℕ) → ContainsFrom ps n (all_processors_from ts n q f)
        → AllFrom (HasKind ps) n (all_processors_from ts n q f)
    kind-trees nil n q f h = tt
    kind-trees (cons c rest) n q f h =
        let s = split-off ps c rest n q f h in
        let long = size-is c n q f in
        all-from-append (HasKind ps) n (n + size c) (processors_from c n q f) (all_processors_from rest (n + size c) q (f + leaf_count c))
        (omega (arith, long)) (kind-tree c n q f s.0) (kind-trees rest (n + size c) q (f + leaf_count c) s.1)

-- each processor of a tree has its kind of children
pub kind-at : (tree : Tree) (n : ℕ) (p : Processor) → slice_get (processors tree) n ≡ Some p
    → HasKind (processors tree) n p
kind-at tree n p is =
    let ps = processors tree in
    subst (λ k. HasKind ps k p) (let e : 0 + n ≡ n = omega arith in e)
    (all-from-at (HasKind ps) 0 ps n p (kind-tree ps tree 0 (size tree) 0 (stands-itself ps)) is)
