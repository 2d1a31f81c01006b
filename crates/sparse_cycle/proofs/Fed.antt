-- What reaches ports, path by path.
use Rattle.std.proofs.Common.{◌≡◌, ℕ, ◌+◌, false, List, [], ◌∷◌, ◌++◌, map, refl, sym, ◌∙◌, ap}
use Rattle.std.specs.List.{filter, flat_map, enumerate_from}
use Rattle.std.proofs.lemmas.Grind.{flat_map-append}
use Rattle.std.proofs.lemmas.List.{map-append}
use Rattle.quantity.specs.declared.value.Value.{Value}
use Rattle.atomic_face.specs.declared.class.PortNo.{PortNo}
use Rattle.atomic_face.specs.Classes.{Bag}
use Rattle.model_tree.specs.Tree.{Word, Tree}
use Rattle.model_tree.specs.Pull.{Source, sources, top_sources, arrivals_by_leaf, top_pulled}
use Rattle.model_tree.proofs.Naturality.{pulls_from_sources, top_pulls_from_sources}
use Rattle.run_model.specs.Cycle.{given_by_leaf, at_port, bag_of, bags}
use Rattle.run_model.specs.Run.{PortRecord, OutRecord, port_records, records_of_bags, out_records}
use Rattle.sparse_cycle.specs.Sparse.{given_at_out, Path, paths_to_port, paths_to_leaf, paths, out_paths, from_source, has_some, brings, fed_by, out_by, fed_among, out_among}
use Rattle.sparse_cycle.proofs.Lists.{flat_map-kept}
use Rattle.sparse_cycle.proofs.Records.{given-at}

-- ---- one port

port-values : (leaf port : ℕ) (vs : List Value) → port_records (leaf, at_port (port, vs)) ≡ map (λ v. record { leaf = leaf; port = port; value = v }) vs
port-values leaf port [] = refl
port-values leaf port (v ∷ vs) = ap (λ l. record { leaf = leaf; port = port; value = v } ∷ l) (port-values leaf port vs)

module _ (from : Source → List Value) where
  by-paths : (leaf port : ℕ) (ss : List Source) → map (λ v. record { leaf = leaf; port = port; value = v }) (flat_map from ss) ≡ flat_map (fed_by from) (paths_to_port leaf (port, ss))
  by-paths leaf port [] = refl
  by-paths leaf port (s ∷ ss) =
      let mk : Value → PortRecord = λ v. record { leaf = leaf; port = port; value = v } in
      map-append mk (from s) (flat_map from ss) ∙ ap (λ l. map mk (from s) ++ l) (by-paths leaf port ss)

  to-port : (leaf port : ℕ) (ss : List Source) → port_records (leaf, at_port (port, flat_map from ss)) ≡ flat_map (fed_by from) (paths_to_port leaf (port, ss))
  to-port leaf port ss = port-values leaf port (flat_map from ss) ∙ by-paths leaf port ss

  to-leaf : (leaf p : ℕ) (ports : List (List Source)) → port_records (leaf, flat_map at_port (enumerate_from p (map (flat_map from) ports))) ≡ flat_map (fed_by from) (flat_map (paths_to_port leaf) (enumerate_from p ports))
  to-leaf leaf p [] = refl
  to-leaf leaf p (ss ∷ ports) =
      let mk : PortNo × Value → PortRecord = λ o. record { leaf = leaf; port = o.0.0; value = o.1 } in
      map-append mk (at_port (p, flat_map from ss)) (flat_map at_port (enumerate_from (p + 1) (map (flat_map from) ports)))
      ∙ (λ i. to-port leaf p ss i ++ to-leaf leaf (p + 1) ports i)
      ∙ sym (flat_map-append (fed_by from) (paths_to_port leaf (p, ss)) (flat_map (paths_to_port leaf) (enumerate_from (p + 1) ports)))

  to-leaves : (k : ℕ) (all : List (List (List Source))) → flat_map port_records (enumerate_from k (map bag_of (map (map (flat_map from)) all))) ≡ flat_map (fed_by from) (flat_map paths_to_leaf (enumerate_from k all))
  to-leaves k [] = refl
  to-leaves k (ports ∷ all) =
      (λ i. to-leaf k 0 ports i ++ to-leaves (k + 1) all i)
      ∙ sym (flat_map-append (fed_by from) (paths_to_leaf (k, ports)) (flat_map paths_to_leaf (enumerate_from (k + 1) all)))

  out-port : (port : ℕ) (ss : List Source) → out_records (port, flat_map from ss) ≡ flat_map (out_by from) (paths_to_port 0 (port, ss))
  out-port port [] = refl
  out-port port (s ∷ ss) =
      let mk : Value → OutRecord = λ v. record { port = port; value = v } in
      map-append mk (from s) (flat_map from ss) ∙ ap (λ l. map mk (from s) ++ l) (out-port port ss)

  to-outs : (k : ℕ) (outs : List (List Source)) → flat_map out_records (enumerate_from k (map (flat_map from) outs)) ≡ flat_map (out_by from) (flat_map (paths_to_port 0) (enumerate_from k outs))
  to-outs k [] = refl
  to-outs k (ss ∷ outs) =
      (λ i. out-port k ss i ++ to-outs (k + 1) outs i)
      ∙ sym (flat_map-append (out_by from) (paths_to_port 0 (k, ss)) (flat_map (paths_to_port 0) (enumerate_from (k + 1) outs)))

  -- a path whose source gives nothing brings nothing
  none-fed : (p : Path) (vs : List Value) → has_some vs ≡ false → map (λ v. record { leaf = p.to; port = p.port; value = v }) vs ≡ (let none : List PortRecord = [] in none)
  none-fed p [] e = refl
  none-fed p (v ∷ vs) e = absurd cc

  none-out : (p : Path) (vs : List Value) → has_some vs ≡ false → map (λ v. record { port = p.port; value = v }) vs ≡ (let none : List OutRecord = [] in none)
  none-out p [] e = refl
  none-out p (v ∷ vs) e = absurd cc

  pub fed-kept : (ps : List Path) → fed_among from (filter (brings from) ps) ≡ flat_map (fed_by from) ps
  fed-kept ps = flat_map-kept (fed_by from) (brings from) (λ p off. none-fed p (from p.source) off) ps

  pub out-kept : (ps : List Path) → out_among from (filter (brings from) ps) ≡ flat_map (out_by from) ps
  out-kept ps = flat_map-kept (out_by from) (brings from) (λ p off. none-out p (from p.source) off) ps

-- ---- the whole model

gives : (gave : List Bag) → given_by_leaf gave ≡ given_at_out (records_of_bags gave)
gives gave = λ i l. given-at gave l i

-- the X records
pub fed-is : (tree : Tree) (gave : List Bag) (top : Word → List Value) → records_of_bags (bags tree gave top) ≡ fed_among (from_source (records_of_bags gave) top) (filter (brings (from_source (records_of_bags gave) top)) (paths tree))
fed-is tree gave top =
    let from = from_source (records_of_bags gave) top in
    ap (λ give. records_of_bags (map bag_of (arrivals_by_leaf tree give top))) (gives gave)
    ∙ ap (λ all. records_of_bags (map bag_of all)) (pulls_from_sources Value tree (given_at_out (records_of_bags gave)) top)
    ∙ to-leaves from 0 (sources tree) ∙ sym (fed-kept from (paths tree))

-- the output records
pub out-is : (tree : Tree) (gave : List Bag) (top : Word → List Value) → flat_map out_records (enumerate_from 0 (top_pulled tree (given_by_leaf gave))) ≡ out_among (from_source (records_of_bags gave) top) (filter (brings (from_source (records_of_bags gave) top)) (out_paths tree))
out-is tree gave top =
    let from = from_source (records_of_bags gave) top in
    ap (λ give. flat_map out_records (enumerate_from 0 (top_pulled tree give))) (gives gave)
    ∙ ap (λ all. flat_map out_records (enumerate_from 0 all)) (top_pulls_from_sources Value tree (given_at_out (records_of_bags gave)) top)
    ∙ to-outs from 0 (top_sources tree) ∙ sym (out-kept from (out_paths tree))
