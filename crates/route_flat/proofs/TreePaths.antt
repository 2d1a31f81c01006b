-- The paths of routes, made of their sources, are those of the tree.
use Rattle.std.proofs.Common.{◌≡◌, ◌+◌, ◌++◌, ◌∷◌, ℕ, List, [], map, refl, ap, ◌∙◌}
use Rattle.std.specs.List.{enumerate_from, flat_map}
use Rattle.std.proofs.lemmas.List.{map-append}
use Rattle.model_leaves.specs.declared.path.Source.{Source}
use Rattle.model_leaves.specs.declared.path.TargetPort.{TargetPort}
use Rattle.model_leaves.specs.declared.path.TargetPort.TheVariants as target
use Rattle.model_tree.specs.Tree.{Word, Tree, ins_of}
use Rattle.model_tree.specs.Pull as P
use Rattle.model_leaves.specs.Numbered.{source_by_name, IsThere}
use Rattle.route_flat.specs.declared.way.Way.{Way}
use Rattle.route_flat.specs.Nets.{Flat, RoutesOf}
use Rattle.route_flat.specs.Ways.{path_in, way_at, ways_to_port, ways_to_leaf, ways_to_top, leaf_paths, top_paths}
use Rattle.route_flat.specs.TreePaths.{tree_path, made_to, made_of, made_at, made_in, PathsOfTree}
use Rattle.route_flat.proofs.Picked.{all-begin}

-- what is made of a way
abbrev made : {X : Type 0} → (ℕ → ℕ → P.Source → X) → List Word → List Way → List X
made make ins ws = map (made_of make ins) (map path_in ws)

made-append : {X : Type 0} (make : ℕ → ℕ → P.Source → X) (ins : List Word) (vs ws : List Way) → made make ins (vs ++ ws) ≡ made make ins vs ++ made make ins ws
made-append make ins vs ws = ap (map (made_of make ins)) (map-append path_in vs ws) ∙ map-append (made_of make ins) (map path_in vs) (map path_in ws)

at-port : {X : Type 0} (make : ℕ → ℕ → P.Source → X) (ins : List Word) (to : TargetPort) (sources : List Source) (n : ℕ) → made make ins (map (way_at to) (enumerate_from n sources)) ≡ map (made_to make to) (map (source_by_name ins) sources)
at-port make ins to [] n = refl
at-port make ins to (s ∷ sources) n = ap (λ xs. made_to make to (source_by_name ins s) ∷ xs) (at-port make ins to sources (n + 1))

at-leaf : {X : Type 0} (make : ℕ → ℕ → P.Source → X) (ins : List Word) (leaf : ℕ) (ports : List (List Source)) (n : ℕ) → made make ins (flat_map (ways_to_port leaf) (enumerate_from n ports)) ≡ flat_map (λ (p : ℕ × List P.Source). map (make leaf p.0) p.1) (enumerate_from n (map (map (source_by_name ins)) ports))
at-leaf make ins leaf [] n = refl
at-leaf make ins leaf (p ∷ ports) n =
    let here = at-port make ins (target.Leaf leaf (record { 0 = n })) p 0 in
    let rest = at-leaf make ins leaf ports (n + 1) in
    made-append make ins (ways_to_port leaf (n, p)) (flat_map (ways_to_port leaf) (enumerate_from (n + 1) ports)) ∙ cc (here, rest)

at-tops : {X : Type 0} (make : ℕ → ℕ → P.Source → X) (ins : List Word) (tops : List (List Source)) (n : ℕ) → made make ins (flat_map ways_to_top (enumerate_from n tops)) ≡ flat_map (λ (p : ℕ × List P.Source). map (make 0 p.0) p.1) (enumerate_from n (map (map (source_by_name ins)) tops))
at-tops make ins [] n = refl
at-tops make ins (p ∷ tops) n =
    let here = at-port make ins (target.TopOut n) p 0 in
    let rest = at-tops make ins tops (n + 1) in
    made-append make ins (ways_to_top (n, p)) (flat_map ways_to_top (enumerate_from (n + 1) tops)) ∙ cc (here, rest)

at-leaves : {X : Type 0} (make : ℕ → ℕ → P.Source → X) (ins : List Word) (all : List (List (List Source))) (n : ℕ) → made make ins (flat_map ways_to_leaf (enumerate_from n all)) ≡ flat_map (made_at make) (enumerate_from n (map (map (map (source_by_name ins))) all))
at-leaves make ins [] n = refl
at-leaves make ins (ports ∷ all) n =
    let here = at-leaf make ins n ports 0 in
    let rest = at-leaves make ins all (n + 1) in
    made-append make ins (ways_to_leaf (n, ports)) (flat_map ways_to_leaf (enumerate_from (n + 1) all)) ∙ cc (here, rest)

-- whatever is made of the parts of a path
pub leaves-made : {X : Type 0} (make : ℕ → ℕ → P.Source → X) (t : Tree) (r : Flat) → RoutesOf t r → map (made_of make (ins_of t)) (leaf_paths r) ≡ made_in make (P.sources t)
leaves-made make t r of = at-leaves make (ins_of t) r.ports 0 ∙ ap (made_in make) of.ports

pub tops-made : {X : Type 0} (make : ℕ → ℕ → P.Source → X) (t : Tree) (r : Flat) → RoutesOf t r → map (made_of make (ins_of t)) (top_paths r) ≡ made_at make (0, P.top_sources t)
tops-made make t r of = at-tops make (ins_of t) r.tops 0 ∙ ap (λ (tops : List (List P.Source)). made_at make (0, tops)) of.tops

pub paths-of-tree : (t : Tree) (r : Flat) → RoutesOf t r → PathsOfTree t r
paths-of-tree t r of =
    record {
      parts = map-append path_in (flat_map ways_to_leaf (enumerate_from 0 r.ports)) (flat_map ways_to_top (enumerate_from 0 r.tops));
      leaves = leaves-made tree_path t r of;
      tops = tops-made tree_path t r of;
      inputs = all-begin (IsThere (ins_of t)) r of.inputs of.top_inputs;
    }
