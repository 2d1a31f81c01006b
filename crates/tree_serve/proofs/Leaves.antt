-- The leaves among the processors of a tree, in their order.
use Rattle.std.proofs.Common.{◌≡◌, inl, inr, ℕ, zero, suc, ◌+◌, ◌<◌, Option, Some, None, List, ◌∷◌, ◌++◌, map, refl, sym, ◌∙◌, ap, arith}
use Rattle.std.specs.Prelude.{slice_get}
use Rattle.std.specs.List.{filter_map, enumerate_from, range_with_len}
use Rattle.std.specs.Option.{option_map}
use Rattle.std.proofs.lemmas.Bool.{cases_order}
use Rattle.cell_grid.specs.Space.{cell_count}
use Rattle.model_tree.specs.Tree.{Group, Tree, Trees, coupled, cells, atomic, nil, cons, Leaf, cell_leaf, leaf_count, leaves_from, all_leaves_from, leaves}
use Rattle.served_tree.specs.Processors.{Node, coupled_node, group_node, leaf_node, Processor, size, processors_from, all_processors_from, processors}
use Rattle.served_tree.proofs.Counting.{found-in}
use Rattle.served_tree.proofs.Placing.{cell_processor}
use Rattle.served_tree.proofs.Finishing.{leaves-many}
use Rattle.tree_serve.proofs.Choosing.{place, found-at-place, place-rises, Comes, comes-from, chosen-append, get-numbered, numbered-append}

-- the leaf that a node is, with its number
abbrev pub pair_of : Node → Option (ℕ × Leaf)
pair_of (coupled_node name ins outs links) = None
pair_of (group_node g) = None
pair_of (leaf_node number leaf) = Some (number, leaf)

abbrev pub leaf_in : Processor → Option (ℕ × Leaf)
leaf_in p = pair_of p.node

cell-pairs : (g : Group) (n f a k : ℕ)
    → filter_map leaf_in (map (cell_processor g n f) (range_with_len a k))
    ≡ enumerate_from (f + a) (map (cell_leaf g f) (range_with_len a k))
cell-pairs g n f a zero = refl
cell-pairs g n f a (suc k) =
    ap (λ l. (f + a, cell_leaf g f a) ∷ l)
    (cell-pairs g n f (a + 1) k
    ∙ ap (λ b. enumerate_from b (map (cell_leaf g f) (range_with_len (a + 1) k))) (let e : f + (a + 1) ≡ (f + a) + 1 = omega arith in e))

mutual
  pairs-in : (c : Tree) (n q f : ℕ)
      → filter_map leaf_in (processors_from c n q f) ≡ enumerate_from f (leaves_from c f)
  pairs-in (coupled name ins outs children links) n q f = all-pairs-in children (n + 1) n f
  pairs-in (cells g) n q f =
      cell-pairs g n f 0 (cell_count g.space)
      ∙ ap (λ b. enumerate_from b (map (cell_leaf g f) (range_with_len 0 (cell_count g.space)))) (let e : f + 0 ≡ f = omega arith in e)
  pairs-in (atomic name class settings) n q f = refl

  all-pairs-in : (ts : Trees) (n q f : ℕ)
      → filter_map leaf_in (all_processors_from ts n q f) ≡ enumerate_from f (all_leaves_from ts f)
  all-pairs-in nil n q f = refl
  all-pairs-in (cons c rest) n q f =
      let many = leaves-many c f in
      let next = f + leaf_count c in
      chosen-append leaf_in (processors_from c n q f) (all_processors_from rest (n + size c) q next)
      ∙ (λ i. pairs-in c n q f i ++ all-pairs-in rest (n + size c) q next i)
      ∙ sym (numbered-append f next (leaves_from c f) (all_leaves_from rest next) (omega (arith, many)))

module _ (tree : Tree) where
  abbrev ps : List Processor
  ps = processors tree

  pub pairs : filter_map leaf_in ps ≡ enumerate_from 0 (leaves tree)
  pairs = pairs-in tree 0 (size tree) 0

  numbered : (k : ℕ) (o : Option Leaf) (l : ℕ) (leaf : Leaf)
      → option_map {U = ℕ × Leaf} (λ x. (0 + k, x)) o ≡ Some (l, leaf) → (o ≡ Some leaf) × (l ≡ k)
  numbered k None l leaf is = absurd cc
  numbered k (Some x) l leaf is =
      let p : ◌≡◌ {A = ℕ × Leaf} (0 + k, x) (l, leaf) = cc in
      let number = ap (λ (q : ℕ × Leaf). q.0) p in
      let same = ap (λ (q : ℕ × Leaf). q.1) p in
      (ap Some same, omega (arith, number))

  -- a leaf of a number
  pub leaf-is : (n : ℕ) (p : Processor) (l : ℕ) (leaf : Leaf) → slice_get ps n ≡ Some p
      → leaf_in p ≡ Some (l, leaf)
      → (slice_get (leaves tree) l ≡ Some leaf) × (l ≡ place leaf_in ps n)
  leaf-is n p l leaf is has =
      let k = place leaf_in ps n in
      let there = found-at-place leaf_in ps n p (l, leaf) is has in
      let h = numbered k (slice_get (leaves tree) k) l leaf (sym (get-numbered 0 (leaves tree) k) ∙ sym (ap (λ ls. slice_get ls k) pairs) ∙ there) in
      (ap (slice_get (leaves tree)) h.1 ∙ h.0, h.1)

  -- each leaf has one processor
  pub one-processor : (m n : ℕ) (p q : Processor) (l : ℕ) (leaf leaf' : Leaf)
      → slice_get ps m ≡ Some p → slice_get ps n ≡ Some q → leaf_in p ≡ Some (l, leaf)
      → leaf_in q ≡ Some (l, leaf') → m ≡ n
  one-processor m n p q l leaf leaf' p-is q-is p-has q-has =
      let a = (leaf-is m p l leaf p-is p-has).1 in
      let b = (leaf-is n q l leaf' q-is q-has).1 in
      elim (cases_order m n) [
        | inl e ↦ e
        | inr (inl lt) ↦ let h = place-rises leaf_in ps m n p (l, leaf) p-is p-has lt in absurd (omega (arith, a, b, h))
        | inr (inr gt) ↦ let h = place-rises leaf_in ps n m q (l, leaf') q-is q-has gt in absurd (omega (arith, a, b, h))
      ]

  -- and there is one for each
  pub processor-of : (l : ℕ) → l < leaf_count tree
      → (leaf : Leaf) × (slice_get (leaves tree) l ≡ Some leaf) × Comes leaf_in ps (l, leaf)
  processor-of l lt =
      let many = leaves-many tree 0 in
      let x = found-in (leaves tree) l (omega (arith, many, lt)) in
      let here : slice_get (enumerate_from 0 (leaves tree)) l ≡ Some (l, x.0) =
      get-numbered 0 (leaves tree) l
      ∙ ap (option_map (λ y. (0 + l, y))) x.1
      ∙ ap (λ n. Some (n, x.0)) (let e : 0 + l ≡ l = omega arith in e) in
      (x.0, x.1, comes-from leaf_in ps l (l, x.0) (ap (λ ls. slice_get ls l) pairs ∙ here))
