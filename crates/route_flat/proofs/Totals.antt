-- The number of paths, from the lists at the nodes.
use Rattle.std.proofs.Common.{◌≡◌, ◌+◌, ℕ, List, [], ◌∷◌, map, length, refl, sym, ap, ◌∙◌}
use Rattle.std.specs.List.{flat_map, sum}
use Rattle.std.proofs.lemmas.List.{length-append, length-map}
use Rattle.std.proofs.lemmas.List.Concat.{flat_map-append}
use Rattle.std.proofs.lemmas.List.Sums.{sum_by-cons}
use Rattle.model_leaves.specs.declared.path.Source.{Source}
use Rattle.model_tree.specs.Tree.{Tree, ins_of}
use Rattle.model_tree.specs.Pull as P
use Rattle.model_tree.specs.Paths.{path_count}
use Rattle.model_leaves.specs.Numbered.{source_by_name}
use Rattle.port_net.specs.declared.net.Net.{Net}
use Rattle.port_net.specs.declared.span.Span.{Span}
use Rattle.port_net.specs.Nodes.{sources_at, part_in_span}
use Rattle.route_flat.specs.Nets.{Flat, RoutesOf, IsParted, flat_of_net, paths_in}

abbrev at_ports : {A : Type 0} → List (List A) → ℕ
at_ports lists = sum (map length lists)

sum-cons : (n : ℕ) (ns : List ℕ) → sum (n ∷ ns) ≡ n + sum ns
sum-cons n ns = sum_by-cons (λ (x : ℕ). x) n ns

lists-sum : (g : ℕ → List Source) (ks : List ℕ) → at_ports (map g ks) ≡ length (flat_map g ks)
lists-sum g [] = refl
lists-sum g (k ∷ ks) = sum-cons (length (g k)) (map length (map g ks)) ∙ ap (λ m. length (g k) + m) (lists-sum g ks) ∙ sym (length-append (g k) (flat_map g ks))

leaves-sum : (g : ℕ → List Source) (ports : List ℕ) (leaves : List Span) → sum (map (λ (ps : List (List Source)). at_ports ps) (map (λ leaf. map g (part_in_span ports leaf)) leaves)) ≡ length (flat_map g (flat_map (part_in_span ports) leaves))
leaves-sum g ports [] = refl
leaves-sum g ports (leaf ∷ leaves) =
    let here = part_in_span ports leaf in
    sum-cons (at_ports (map g here)) (map (λ (ps : List (List Source)). at_ports ps) (map (λ leaf. map g (part_in_span ports leaf)) leaves))
    ∙ ap (λ m. at_ports (map g here) + m) (leaves-sum g ports leaves) ∙ ap (λ m. m + length (flat_map g (flat_map (part_in_span ports) leaves))) (lists-sum g here)
    ∙ sym (ap length (flat_map-append g here (flat_map (part_in_span ports) leaves)) ∙ length-append (flat_map g here) (flat_map g (flat_map (part_in_span ports) leaves)))

-- the paths of a net are the items of its lists, one behind another
pub net-paths : (n : Net) → IsParted n → paths_in (flat_of_net n) ≡ length (flat_map (sources_at n.nodes.items) n.ports.items) + length (flat_map (sources_at n.nodes.items) n.outputs.items)
net-paths n parted =
    let ports = leaves-sum (sources_at n.nodes.items) n.ports.items n.leaves.items ∙ ap (λ ks. length (flat_map (sources_at n.nodes.items) ks)) parted.whole in
    let outputs = lists-sum (sources_at n.nodes.items) n.outputs.items in
    cc (ports, outputs)

-- ---- the paths of the tree

named-sum : {A B : Type 0} (f : A → B) (lists : List (List A)) → at_ports (map (map f) lists) ≡ at_ports lists
named-sum f [] = refl
named-sum f (l ∷ lists) =
    sum-cons (length (map f l)) (map length (map (map f) lists)) ∙ ap (λ m. length (map f l) + m) (named-sum f lists) ∙ ap (λ m. m + at_ports lists) (length-map l f)
    ∙ sym (sum-cons (length l) (map length lists))

all-named : {A B : Type 0} (f : A → B) (leaves : List (List (List A))) → sum (map (λ (ps : List (List B)). at_ports ps) (map (map (map f)) leaves)) ≡ sum (map (λ (ps : List (List A)). at_ports ps) leaves)
all-named f [] = refl
all-named {A} {B} f (ps ∷ leaves) =
    sum-cons (at_ports (map (map f) ps)) (map (λ (qs : List (List B)). at_ports qs) (map (map (map f)) leaves)) ∙ ap (λ m. at_ports (map (map f) ps) + m) (all-named f leaves)
    ∙ ap (λ m. m + sum (map (λ (qs : List (List A)). at_ports qs) leaves)) (named-sum f ps) ∙ sym (sum-cons (at_ports ps) (map (λ (qs : List (List A)). at_ports qs) leaves))

pub tree-paths : (t : Tree) (r : Flat) → RoutesOf t r → path_count t ≡ paths_in r
tree-paths t r of =
    let ports = ap (λ (xs : List (List (List P.Source))). sum (map (λ (ps : List (List P.Source)). at_ports ps) xs)) (sym of.ports) ∙ all-named (source_by_name (ins_of t)) r.ports in
    let tops = ap (λ (xs : List (List P.Source)). at_ports xs) (sym of.tops) ∙ named-sum (source_by_name (ins_of t)) r.tops in
    cc (ports, tops)

pub tree-of-net : (t : Tree) (n : Net) → RoutesOf t (flat_of_net n) → path_count t ≡ paths_in (flat_of_net n)
tree-of-net t n of = tree-paths t (flat_of_net n) of
