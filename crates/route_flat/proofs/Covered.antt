-- A tree's routes have a list for each port.
use Rattle.std.proofs.Common.{◌≡◌, ◌+◌, ℕ, List, [], ◌∷◌, map, length, refl, sym, ap, ◌∙◌}
use Rattle.std.proofs.lemmas.List.{map-append, length-map}
use Rattle.model_tree.specs.Tree.{Word, Group, Tree, Trees, coupled, cells, atomic, nil, cons, Leaf, name_of, leaf_count, leaves_from, all_leaves_from, cell_leaf, ins_of, outs_of}
use Rattle.model_tree.specs.Pull as P
use Rattle.model_leaves.specs.LeafTexts.{in_ports}
use Rattle.model_leaves.specs.Numbered.{source_by_name}
use Rattle.route_flat.specs.Nets.{Flat, RoutesOf}
use Rattle.route_flat.specs.Ports.{CoversPorts}

abbrev ports_at : Leaf → ℕ
ports_at l = length (in_ports l)

same-lengths : {A B : Type 0} (g : A → B) (lists : List (List A)) → map length (map (map g) lists) ≡ map length lists
same-lengths g [] = refl
same-lengths g (l ∷ lists) = rw (length-map l g, same-lengths g lists) refl

cells-covered : {A : Type 0} (g : Group) (first : ℕ) (f : ℕ → Word → List A) (ns : List ℕ) → map length (map (λ n. map (f n) (P.cell_ports g n)) ns) ≡ map ports_at (map (cell_leaf g first) ns)
cells-covered g first f [] = refl
cells-covered g first f (n ∷ ns) = rw (length-map (P.cell_ports g n) (f n), cells-covered g first f ns) refl

mutual
  taken-covered : {A : Type 0} (t : Tree) (first : ℕ) (give : ℕ → List A) (own : Word → List A) → map length (P.taken_in t first give own) ≡ map ports_at (leaves_from t first)
  taken-covered (coupled name ins outs children links) first give own =
      all-covered children first give (λ child port. P.what_links_bring links (P.is_child port child) own (P.given_by children first give) P.nothing)
  taken-covered (cells g) first give own =
      cells-covered g first (λ n port. P.what_links_bring g.links (P.is_cell port n) own (λ p c. []) (λ m. give (first + m))) _
  taken-covered (atomic name class settings) first give own = ap (λ (n : ℕ). n ∷ []) (length-map (P.class_ports class) own)

  all-covered : {A : Type 0} (ts : Trees) (first : ℕ) (give : ℕ → List A) (own : Word → Word → List A) → map length (P.all_taken_in ts first give own) ≡ map ports_at (all_leaves_from ts first)
  all-covered nil first give own = refl
  all-covered (cons t ts) first give own =
      map-append length (P.taken_in t first give (own (name_of t))) (P.all_taken_in ts (first + leaf_count t) give own)
      ∙ rw (taken-covered t first give (own (name_of t)), all-covered ts (first + leaf_count t) give own) (sym (map-append ports_at (leaves_from t first) (all_leaves_from ts (first + leaf_count t))))

pub ports-covered : (t : Tree) (r : Flat) → RoutesOf t r → CoversPorts t r
ports-covered t r of =
    record {
      ports =
          sym (same-lengths (map (source_by_name (ins_of t))) r.ports) ∙ ap (λ (xs : List (List (List P.Source))). map length xs) of.ports
          ∙ taken-covered t 0 (λ n. P.leaf_source n ∷ []) (λ p. P.top_source p ∷ []);
      tops =
          sym (length-map r.tops (map (source_by_name (ins_of t)))) ∙ ap (λ (xs : List (List P.Source)). length xs) of.tops
          ∙ length-map (outs_of t) (P.given_out t 0 (λ n. P.leaf_source n ∷ []));
    }
