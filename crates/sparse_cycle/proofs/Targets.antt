-- Paths lead to leaves.
use Rattle.std.proofs.Common.{◌≡◌, ℕ, ◌+◌, ◌<◌, ◌≤◌, List, [], ◌∷◌, map, length, refl, sym, ◌∙◌, arith, length-append}
use Rattle.std.specs.List.{AllByRecursion, flat_map, enumerate_from, range_with_len}
use Rattle.std.proofs.lemmas.List.{length-map}
use Rattle.cell_grid.specs.Space.{cell_count}
use Rattle.model_tree.specs.Tree.{Word, Tree, Trees, coupled, cells, atomic, nil, cons, name_of, leaf_count, cell_leaf, leaves, leaves_from, all_leaves_from}
use Rattle.model_tree.specs.Pull.{Source, leaf_source, top_source, sources, taken_in, all_taken_in, what_links_bring, is_child, is_cell, given_by, nothing, cell_ports}
use Rattle.sparse_cycle.specs.Sparse.{Path, paths, paths_to_leaf}
use Rattle.sparse_cycle.proofs.FedParts.{all-append, all-at, leaf-paths, to_of}
use Rattle.sparse_cycle.specs.Feed.{TargetsAreLeaves}

mutual
  taken-long : (t : Tree) (first n : ℕ) (give : ℕ → List Source) (own : Word → List Source) → length (taken_in t n give own) ≡ length (leaves_from t first)
  taken-long (coupled name ins outs children links) first n give own =
      all-taken-long children first n give (λ child port. what_links_bring links (is_child port child) own (given_by children n give) nothing)
  taken-long (cells g) first n give own =
      length-map (range_with_len 0 (cell_count g.space)) (λ k. map (λ port. what_links_bring g.links (is_cell port k) own (λ p c. []) (λ m. give (n + m))) (cell_ports g k))
      ∙ sym (length-map (range_with_len 0 (cell_count g.space)) (cell_leaf g first))
  taken-long (atomic name class settings) first n give own = refl

  all-taken-long : (ts : Trees) (first n : ℕ) (give : ℕ → List Source) (own : Word → Word → List Source) → length (all_taken_in ts n give own) ≡ length (all_leaves_from ts first)
  all-taken-long nil first n give own = refl
  all-taken-long (cons t ts) first n give own =
      let one = taken-long t first n give (own (name_of t)) in
      let more = all-taken-long ts (first + leaf_count t) (n + leaf_count t) give own in
      length-append (taken_in t n give (own (name_of t))) (all_taken_in ts (n + leaf_count t) give own)
      ∙ (λ i. one i + more i)
      ∙ sym (length-append (leaves_from t first) (all_leaves_from ts (first + leaf_count t)))

same-below : (l m : ℕ) (ps : List Path) → l < m → AllByRecursion (λ p. to_of p ≡ l) ps → AllByRecursion (λ (p : Path). p.to < m) ps
unfolding to_of
same-below l m [] lt h = tt
same-below l m (p ∷ ps) lt h = let is = h.0 in (omega (arith, is, lt), same-below l m ps lt h.1)

below : (k m : ℕ) (ls : List (List (List Source))) → k + length ls ≤ m → AllByRecursion (λ (p : Path). p.to < m) (flat_map paths_to_leaf (enumerate_from k ls))
below k m [] le = tt
below k m (ports ∷ ls) le =
    all-append (λ (p : Path). p.to < m) (paths_to_leaf (k, ports)) (flat_map paths_to_leaf (enumerate_from (k + 1) ls))
    (same-below k m (paths_to_leaf (k, ports)) (omega (arith, le)) (leaf-paths k 0 ports)) (below (k + 1) m ls (omega (arith, le)))

pub targets-are-leaves : TargetsAreLeaves
targets-are-leaves tree =
    let long = taken-long tree 0 0 (λ n. leaf_source n ∷ []) (λ p. top_source p ∷ []) in
    all-at (λ (p : Path). p.to < length (leaves tree)) (paths tree) (below 0 (length (leaves tree)) (sources tree) (omega (arith, long)))
