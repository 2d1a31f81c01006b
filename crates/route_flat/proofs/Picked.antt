-- The paths to leaves among all paths, and those to outputs of top, whatever is made of them.
use Rattle.std.proofs.Common.{◌≡◌, ◌+◌, ◌++◌, ◌∷◌, ℕ, Option, Some, None, List, [], map, refl, ap, ◌∙◌, append-nil}
use Rattle.std.specs.List.{All, cons_option, enumerate_from, filter_map, flat_map}
use Rattle.std.proofs.lemmas.List.{map-append}
use Rattle.std.proofs.lemmas.List.Elements.{filter_map-append, All-nil, All-cons, All-append, All-head, All-tail}
use Rattle.model_leaves.specs.declared.path.Source.{Source}
use Rattle.model_leaves.specs.declared.path.Path.{Path}
use Rattle.model_leaves.specs.declared.path.TargetPort.{TargetPort}
use Rattle.model_leaves.specs.declared.path.TargetPort.TheVariants as target
use Rattle.model_tree.specs.Tree.{Word, Tree, ins_of}
use Rattle.model_tree.specs.Pull as P
use Rattle.model_leaves.specs.Numbered.{source_by_name}
use Rattle.atomic_face.specs.declared.class.PortNo.{PortNo}
use Rattle.route_flat.specs.declared.way.Way.{Way}
use Rattle.route_flat.specs.Nets.{Flat, RoutesOf}
use Rattle.route_flat.specs.Ways.{path_in, way_at, ways_to_port, ways_to_leaf, ways_to_top, paths_of}
use Rattle.route_flat.specs.TreePaths.{made_at, made_in}

-- what is picked among ways
abbrev picked : {X : Type 0} → (TargetPort → P.Source → Option X) → List Word → List Way → List X
picked pick ins ws = filter_map (λ (p : Path). pick p.to (source_by_name ins p.from)) (map path_in ws)

picked-append : {X : Type 0} (pick : TargetPort → P.Source → Option X) (ins : List Word) (vs ws : List Way) → picked pick ins (vs ++ ws) ≡ picked pick ins vs ++ picked pick ins ws
picked-append pick ins vs ws =
    ap (filter_map (λ (p : Path). pick p.to (source_by_name ins p.from))) (map-append path_in vs ws)
    ∙ filter_map-append (λ (p : Path). pick p.to (source_by_name ins p.from)) (map path_in vs) (map path_in ws)

-- a port whose paths are picked, and one whose paths are not
taken-port : {X : Type 0} (pick : TargetPort → P.Source → Option X) (ins : List Word) (to : TargetPort) (f : P.Source → X) → ((s : P.Source) → pick to s ≡ Some (f s)) → (sources : List Source) (n : ℕ) → picked pick ins (map (way_at to) (enumerate_from n sources)) ≡ map f (map (source_by_name ins) sources)
taken-port pick ins to f is [] n = refl
taken-port {X} pick ins to f is (s ∷ sources) n =
    ap (λ (o : Option X). cons_option o (picked pick ins (map (way_at to) (enumerate_from (n + 1) sources)))) (is (source_by_name ins s))
    ∙ ap (λ (xs : List X). f (source_by_name ins s) ∷ xs) (taken-port pick ins to f is sources (n + 1))

left-port : {X : Type 0} (pick : TargetPort → P.Source → Option X) (ins : List Word) (to : TargetPort) → ((s : P.Source) → pick to s ≡ None) → (sources : List Source) (n : ℕ) → picked pick ins (map (way_at to) (enumerate_from n sources)) ≡ []
left-port pick ins to none [] n = refl
left-port {X} pick ins to none (s ∷ sources) n =
    ap (λ (o : Option X). cons_option o (picked pick ins (map (way_at to) (enumerate_from (n + 1) sources)))) (none (source_by_name ins s))
    ∙ left-port pick ins to none sources (n + 1)

module _ {X : Type 0} (make : ℕ → ℕ → P.Source → X) (pick : TargetPort → P.Source → Option X) (ins : List Word) where
  -- ---- where paths to leaves are picked
  module _ (is : (l : ℕ) (port : PortNo) (s : P.Source) → pick (target.Leaf l port) s ≡ Some (make l port.0 s)) where
    leaf-taken : (l : ℕ) (ports : List (List Source)) (n : ℕ) → picked pick ins (flat_map (ways_to_port l) (enumerate_from n ports)) ≡ flat_map (λ (p : ℕ × List P.Source). map (make l p.0) p.1) (enumerate_from n (map (map (source_by_name ins)) ports))
    leaf-taken l [] n = refl
    leaf-taken l (p ∷ ports) n =
        let here = taken-port pick ins (target.Leaf l (record { 0 = n })) (make l n) (is l (record { 0 = n })) p 0 in
        let rest = leaf-taken l ports (n + 1) in
        picked-append pick ins (ways_to_port l (n, p)) (flat_map (ways_to_port l) (enumerate_from (n + 1) ports)) ∙ cc (here, rest)

    leaves-taken : (all : List (List (List Source))) (n : ℕ) → picked pick ins (flat_map ways_to_leaf (enumerate_from n all)) ≡ flat_map (made_at make) (enumerate_from n (map (map (map (source_by_name ins))) all))
    leaves-taken [] n = refl
    leaves-taken (ports ∷ all) n =
        let here = leaf-taken n ports 0 in
        let rest = leaves-taken all (n + 1) in
        picked-append pick ins (ways_to_leaf (n, ports)) (flat_map ways_to_leaf (enumerate_from (n + 1) all)) ∙ cc (here, rest)

  -- ---- where they are not
  module _ (none : (l : ℕ) (port : PortNo) (s : P.Source) → pick (target.Leaf l port) s ≡ None) where
    leaf-left : (l : ℕ) (ports : List (List Source)) (n : ℕ) → picked pick ins (flat_map (ways_to_port l) (enumerate_from n ports)) ≡ []
    leaf-left l [] n = refl
    leaf-left l (p ∷ ports) n =
        let here = left-port pick ins (target.Leaf l (record { 0 = n })) (none l (record { 0 = n })) p 0 in
        let rest = leaf-left l ports (n + 1) in
        picked-append pick ins (ways_to_port l (n, p)) (flat_map (ways_to_port l) (enumerate_from (n + 1) ports)) ∙ rw (here, rest) refl

    leaves-left : (all : List (List (List Source))) (n : ℕ) → picked pick ins (flat_map ways_to_leaf (enumerate_from n all)) ≡ []
    leaves-left [] n = refl
    leaves-left (ports ∷ all) n =
        let here = leaf-left n ports 0 in
        let rest = leaves-left all (n + 1) in
        picked-append pick ins (ways_to_leaf (n, ports)) (flat_map ways_to_leaf (enumerate_from (n + 1) all)) ∙ rw (here, rest) refl

  -- ---- where paths to outputs of top are picked, and where they are not
  tops-taken : ((k : ℕ) (s : P.Source) → pick (target.TopOut k) s ≡ Some (make 0 k s)) → (tops : List (List Source)) (n : ℕ) → picked pick ins (flat_map ways_to_top (enumerate_from n tops)) ≡ flat_map (λ (p : ℕ × List P.Source). map (make 0 p.0) p.1) (enumerate_from n (map (map (source_by_name ins)) tops))
  tops-taken is [] n = refl
  tops-taken is (p ∷ tops) n =
      let here = taken-port pick ins (target.TopOut n) (make 0 n) (is n) p 0 in
      let rest = tops-taken is tops (n + 1) in
      picked-append pick ins (ways_to_top (n, p)) (flat_map ways_to_top (enumerate_from (n + 1) tops)) ∙ cc (here, rest)

  tops-left : ((k : ℕ) (s : P.Source) → pick (target.TopOut k) s ≡ None) → (tops : List (List Source)) (n : ℕ) → picked pick ins (flat_map ways_to_top (enumerate_from n tops)) ≡ []
  tops-left none [] n = refl
  tops-left none (p ∷ tops) n =
      let here = left-port pick ins (target.TopOut n) (none n) p 0 in
      let rest = tops-left none tops (n + 1) in
      picked-append pick ins (ways_to_top (n, p)) (flat_map ways_to_top (enumerate_from (n + 1) tops)) ∙ rw (here, rest) refl

-- ---- of a tree's routes

-- what picks the paths to leaves gives those of the tree
pub leaves-picked : {X : Type 0} (make : ℕ → ℕ → P.Source → X) (pick : TargetPort → P.Source → Option X) → ((l : ℕ) (port : PortNo) (s : P.Source) → pick (target.Leaf l port) s ≡ Some (make l port.0 s)) → ((k : ℕ) (s : P.Source) → pick (target.TopOut k) s ≡ None) → (t : Tree) (r : Flat) → RoutesOf t r → filter_map (λ (p : Path). pick p.to (source_by_name (ins_of t) p.from)) (paths_of r) ≡ made_in make (P.sources t)
leaves-picked make pick is none t r of =
    picked-append pick (ins_of t) (flat_map ways_to_leaf (enumerate_from 0 r.ports)) (flat_map ways_to_top (enumerate_from 0 r.tops))
    ∙ rw (tops-left make pick (ins_of t) none r.tops 0, leaves-taken make pick (ins_of t) is r.ports 0) (append-nil (made_in make (map (map (map (source_by_name (ins_of t)))) r.ports)))
    ∙ ap (made_in make) of.ports

-- and what picks those to outputs of top
pub tops-picked : {X : Type 0} (make : ℕ → ℕ → P.Source → X) (pick : TargetPort → P.Source → Option X) → ((l : ℕ) (port : PortNo) (s : P.Source) → pick (target.Leaf l port) s ≡ None) → ((k : ℕ) (s : P.Source) → pick (target.TopOut k) s ≡ Some (make 0 k s)) → (t : Tree) (r : Flat) → RoutesOf t r → filter_map (λ (p : Path). pick p.to (source_by_name (ins_of t) p.from)) (paths_of r) ≡ made_at make (0, P.top_sources t)
tops-picked make pick none is t r of =
    picked-append pick (ins_of t) (flat_map ways_to_leaf (enumerate_from 0 r.ports)) (flat_map ways_to_top (enumerate_from 0 r.tops))
    ∙ rw (leaves-left make pick (ins_of t) none r.ports 0) (tops-taken make pick (ins_of t) is r.tops 0)
    ∙ ap (λ (tops : List (List P.Source)). made_at make (0, tops)) of.tops

-- ---- what holds of all sources holds where paths begin

module _ (Q : Source → Type 0) where
  abbrev Begin : List Way → Type 0
  Begin ws = All (λ (p : Path). Q p.from) (map path_in ws)

  begin-append : (vs ws : List Way) → Begin vs → Begin ws → Begin (vs ++ ws)
  begin-append vs ws g h = rw (map-append path_in vs ws) (All-append (λ (p : Path). Q p.from) (map path_in vs) (map path_in ws) g h)

  at-port : (to : TargetPort) (sources : List Source) (n : ℕ) → All Q sources → Begin (map (way_at to) (enumerate_from n sources))
  at-port to [] n h = All-nil (λ (p : Path). Q p.from)
  at-port to (s ∷ sources) n h =
      All-cons (λ (p : Path). Q p.from) (record { from = s; to = to }) (map path_in (map (way_at to) (enumerate_from (n + 1) sources))) (All-head Q s sources h)
      (at-port to sources (n + 1) (All-tail Q s sources h))

  at-leaf : (l : ℕ) (ports : List (List Source)) (n : ℕ) → All (All Q) ports → Begin (flat_map (ways_to_port l) (enumerate_from n ports))
  at-leaf l [] n h = All-nil (λ (p : Path). Q p.from)
  at-leaf l (p ∷ ports) n h =
      begin-append (ways_to_port l (n, p)) (flat_map (ways_to_port l) (enumerate_from (n + 1) ports))
      (at-port (target.Leaf l (record { 0 = n })) p 0 (All-head (All Q) p ports h)) (at-leaf l ports (n + 1) (All-tail (All Q) p ports h))

  at-leaves : (all : List (List (List Source))) (n : ℕ) → All (All (All Q)) all → Begin (flat_map ways_to_leaf (enumerate_from n all))
  at-leaves [] n h = All-nil (λ (p : Path). Q p.from)
  at-leaves (ports ∷ all) n h =
      begin-append (ways_to_leaf (n, ports)) (flat_map ways_to_leaf (enumerate_from (n + 1) all))
      (at-leaf n ports 0 (All-head (All (All Q)) ports all h)) (at-leaves all (n + 1) (All-tail (All (All Q)) ports all h))

  at-tops : (tops : List (List Source)) (n : ℕ) → All (All Q) tops → Begin (flat_map ways_to_top (enumerate_from n tops))
  at-tops [] n h = All-nil (λ (p : Path). Q p.from)
  at-tops (p ∷ tops) n h =
      begin-append (ways_to_top (n, p)) (flat_map ways_to_top (enumerate_from (n + 1) tops))
      (at-port (target.TopOut n) p 0 (All-head (All Q) p tops h)) (at-tops tops (n + 1) (All-tail (All Q) p tops h))

  pub all-begin : (r : Flat) → All (All (All Q)) r.ports → All (All Q) r.tops → All (λ (p : Path). Q p.from) (paths_of r)
  all-begin r g h =
      begin-append (flat_map ways_to_leaf (enumerate_from 0 r.ports)) (flat_map ways_to_top (enumerate_from 0 r.tops)) (at-leaves r.ports 0 g) (at-tops r.tops 0 h)
