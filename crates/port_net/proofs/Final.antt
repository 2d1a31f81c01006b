-- The net of a model, from its nodes and rows.
use Rattle.std.proofs.Common.{◌≡◌, ◌<◌, ◌≤◌, ◌+◌, ◌++◌, ℕ, zero, suc, Bool, true, false, List, [], ◌∷◌, map, length, reverse, refl, sym, ap, ◌∙◌, subst, arith, append_assoc, append-nil}
use Rattle.std.specs.Prelude.{◌==◌, ⊤}
use Rattle.std.specs.List.{All, AllByRecursion, flat_map, range_with_len}
use Rattle.std.proofs.lemmas.List.{reverse-append, length-map}
use Rattle.std.proofs.lemmas.List.FromFn.{length-range_with_len}
use Rattle.std.proofs.lemmas.List.Elements.{All-nil, All-cons, All-append}
use Rattle.model_leaves.specs.declared.path.Source.{Source}
use Rattle.model_leaves.specs.declared.path.Source.TheVariants.{Leaf, TopIn}
use Rattle.model_tree.specs.Tree.{Word, Tree, ins_of}
use Rattle.model_tree.specs.Pull as P
use Rattle.model_leaves.specs.LeafTexts.{name_at}
use Rattle.model_leaves.specs.Numbered.{source_by_name, IsThere}
use Rattle.port_net.specs.declared.net.Net.{Net}
use Rattle.port_net.specs.declared.net.Node.{Node}
use Rattle.port_net.specs.declared.net.Node.TheVariants.{Given, Joins}
use Rattle.port_net.specs.declared.span.Span.{Span}
use Rattle.port_net.specs.declared.growing.Growing.{Growing}
use Rattle.port_net.specs.Nodes.{at_node, stands, sources_at, part_in_span}
use Rattle.port_net.specs.Nets.{IsNetOf}
use Rattle.port_net.specs.Shown.{plain_sources, Gives, AllGive, IsInner, Extends, input_node}
use Rattle.port_net.specs.Rows.{Shows}
use Rattle.port_net.proofs.Stood.{at-behind}

-- ---- the inputs of top

abbrev pub inputs_to : ℕ → List Node
inputs_to n = map input_node (range_with_len 0 n)

split-range : (a n k : ℕ) → k < n → (ys : List Node) × (map input_node (range_with_len a n) ≡ map input_node (range_with_len a k) ++ (input_node (a + k) ∷ ys))
split-range a zero k h = absurd (omega (arith, h))
split-range a (suc n) zero h = (map input_node (range_with_len (a + 1) n), ap (λ (m : ℕ). input_node m ∷ map input_node (range_with_len (a + 1) n)) (let e : a ≡ a + 0 = omega arith in e))
split-range a (suc n) (suc k) h =
    let rest = split-range (a + 1) n k (omega (arith, h)) in
    (rest.0, ap (λ (ns : List Node). input_node a ∷ ns) (rest.1 ∙ ap (λ (m : ℕ). map input_node (range_with_len (a + 1) k) ++ (input_node m ∷ rest.0)) (let e : (a + 1) + k ≡ a + suc k = omega arith in e)))

pub input-shown : (ins : List Word) (ns : List Node) (n k : ℕ) → ns ≡ inputs_to n → k < n → Gives ins ns k (P.top_source (name_at ins k) ∷ [])
input-shown ins ns n k e h more =
    let parts = split-range 0 n k h in
    let long : k ≡ length (map input_node (range_with_len 0 k)) = sym (length-map (range_with_len 0 k) input_node ∙ length-range_with_len 0 k) in
    let none : 0 + k ≡ k = omega arith in
    let order : ns ++ more ≡ (map input_node (range_with_len 0 k) ++ input_node k ∷ []) ++ (parts.0 ++ more) =
    ap (λ (xs : List Node). xs ++ more) (e ∙ parts.1 ∙ ap (λ (m : ℕ). map input_node (range_with_len 0 k) ++ (input_node m ∷ parts.0)) none)
    ∙ append_assoc (map input_node (range_with_len 0 k)) (input_node k ∷ parts.0) more
    ∙ sym (append_assoc (map input_node (range_with_len 0 k)) (input_node k ∷ []) (parts.0 ++ more)) in
    ap (λ (xs : List Node). map (source_by_name ins) (sources_at xs k)) order ∙ ap (map (source_by_name ins)) (at-behind (map input_node (range_with_len 0 k)) (parts.0 ++ more) (input_node k) k long)

-- ---- inputs that are there

abbrev GoodNode : List Word → Node → Type 0
GoodNode ins (Given s) = IsThere ins s
GoodNode ins (Joins ks) = ⊤

good-inner : (ins : List Word) (x : Node) → IsInner x → GoodNode ins x
good-inner ins (Given (Leaf l)) h = tt
good-inner ins (Given (TopIn k)) h = absurd h
good-inner ins (Joins ks) h = tt

good-all : (ins : List Word) (xs : List Node) → AllByRecursion IsInner xs → AllByRecursion (GoodNode ins) xs
good-all ins [] h = tt
good-all ins (x ∷ xs) h = (good-inner ins x h.0, good-all ins xs h.1)

good-both : (ins : List Word) (xs ys : List Node) → AllByRecursion (GoodNode ins) xs → AllByRecursion (GoodNode ins) ys → AllByRecursion (GoodNode ins) (xs ++ ys)
good-both ins [] ys g h = h
good-both ins (x ∷ xs) ys g h = (g.0, good-both ins xs ys g.1 h)

good-inputs : (ins : List Word) (a n : ℕ) → a + n ≤ length ins → AllByRecursion (GoodNode ins) (map input_node (range_with_len a n))
good-inputs ins a zero h = tt
good-inputs ins a (suc n) h = (omega (arith, h), good-inputs ins (a + 1) n (omega (arith, h)))

good-reverse : (ins : List Word) (xs : List Node) → AllByRecursion (GoodNode ins) xs → AllByRecursion (GoodNode ins) (reverse xs)
good-reverse ins [] h = tt
good-reverse ins (x ∷ xs) h = subst (AllByRecursion (GoodNode ins)) (sym (reverse-append (x ∷ []) xs)) (good-both ins (reverse xs) (x ∷ []) (good-reverse ins xs h.1) (h.0, tt))

there-joined : (ins : List Word) (f : ℕ → List Source) → ((k : ℕ) → All (IsThere ins) (f k)) → (ks : List ℕ) → All (IsThere ins) (flat_map f ks)
there-joined ins f h [] = All-nil (IsThere ins)
there-joined ins f h (k ∷ ks) = All-append (IsThere ins) (f k) (flat_map f ks) (h k) (there-joined ins f h ks)

there-node : (ins : List Word) (f : ℕ → List Source) → ((k : ℕ) → All (IsThere ins) (f k)) → (x : Node) → GoodNode ins x → All (IsThere ins) (at_node f x)
there-node ins f h (Given s) g = All-cons (IsThere ins) s [] g (All-nil (IsThere ins))
there-node ins f h (Joins ks) g = there-joined ins f h ks.items

there-at : (ins : List Word) (ns : List Node) (k : ℕ) → AllByRecursion (GoodNode ins) ns → All (IsThere ins) (stands ns k)
there-at ins [] k h = All-nil (IsThere ins)
there-at ins (x ∷ ns) k h = cases (λ j. there-at ins ns j h.1) (k == length ns) refl
  where
    cases : ((j : ℕ) → All (IsThere ins) (stands ns j)) → (b : Bool) → (k == length ns) ≡ b → All (IsThere ins) (stands (x ∷ ns) k)
    cases older true t = rw t (there-node ins (stands ns) older x h.0)
    cases older false t = rw t (older k)

pub all-there : (ins : List Word) (base ns : List Node) (n k : ℕ) → base ≡ inputs_to n → n ≤ length ins → Extends base ns → All (IsThere ins) (sources_at ns k)
all-there ins base ns n k e h g =
    let good : AllByRecursion (GoodNode ins) ns =
    subst (AllByRecursion (GoodNode ins)) (sym g.grown) (good-both ins base g.more (subst (AllByRecursion (GoodNode ins)) (sym e) (good-inputs ins 0 n (omega (arith, h)))) (good-all ins g.more g.inner)) in
    there-at ins (reverse ns) k (good-reverse ins ns good)

-- ---- the whole net

one-row : (ins : List Word) (ns : List Node) (ks : List ℕ) → map (map (source_by_name ins)) (map (sources_at ns) ks) ≡ map (plain_sources ins ns) ks
one-row ins ns [] = refl
one-row ins ns (k ∷ ks) = ap (λ (xs : List (List P.Source)). plain_sources ins ns k ∷ xs) (one-row ins ns ks)

all-rows : (ins : List Word) (ns : List Node) (ps : List ℕ) (leaves : List Span) → map (map (map (source_by_name ins))) (map (λ leaf. map (sources_at ns) (part_in_span ps leaf)) leaves) ≡ map (λ leaf. map (plain_sources ins ns) (part_in_span ps leaf)) leaves
all-rows ins ns ps [] = refl
all-rows ins ns ps (s ∷ leaves) = rw (one-row ins ns (part_in_span ps s), all-rows ins ns ps leaves) refl

there-row : (ins : List Word) (ns : List Node) (ks : List ℕ) → ((k : ℕ) → All (IsThere ins) (sources_at ns k)) → All (All (IsThere ins)) (map (sources_at ns) ks)
there-row ins ns [] h = All-nil (All (IsThere ins))
there-row ins ns (k ∷ ks) h = All-cons (All (IsThere ins)) (sources_at ns k) (map (sources_at ns) ks) (h k) (there-row ins ns ks h)

there-rows : (ins : List Word) (ns : List Node) (ps : List ℕ) (leaves : List Span) → ((k : ℕ) → All (IsThere ins) (sources_at ns k)) → All (All (All (IsThere ins))) (map (λ leaf. map (sources_at ns) (part_in_span ps leaf)) leaves)
there-rows ins ns ps [] h = All-nil (All (All (IsThere ins)))
there-rows ins ns ps (s ∷ leaves) h =
    All-cons (All (All (IsThere ins))) (map (sources_at ns) (part_in_span ps s)) (map (λ leaf. map (sources_at ns) (part_in_span ps leaf)) leaves) (there-row ins ns (part_in_span ps s) h) (there-rows ins ns ps leaves h)

pub net-is : (t : Tree) (base : List Node) (n : ℕ) (g : Growing) (net : Net) → base ≡ inputs_to n → n ≤ length (ins_of t) → Extends base g.nodes.items → net.nodes.items ≡ g.nodes.items → net.ports.items ≡ g.ports.items → net.leaves.items ≡ g.leaves.items → Shows (ins_of t) g (P.sources t) → AllGive (ins_of t) g.nodes.items net.outputs.items (P.top_sources t) → IsNetOf t net
net-is t base n g net b few ext ns ps ls shows outs =
    let ins = ins_of t in
    let there = λ (k : ℕ). all-there (ins_of t) base g.nodes.items n k b few ext in
    record {
      parted = record { within = rw (ps, ls) shows.within; whole = rw (ps, ls) shows.whole };
      routes =
          record {
            ports = rw (ns, ps, ls) (all-rows (ins_of t) g.nodes.items g.ports.items g.leaves.items ∙ ap (λ (xs : List Node). map (λ leaf. map (plain_sources (ins_of t) xs) (part_in_span g.ports.items leaf)) g.leaves.items) (sym (append-nil g.nodes.items)) ∙ shows.shown []);
            tops = rw ns (one-row (ins_of t) g.nodes.items net.outputs.items ∙ ap (λ (xs : List Node). map (plain_sources (ins_of t) xs) net.outputs.items) (sym (append-nil g.nodes.items)) ∙ outs []);
            inputs = rw (ns, ps, ls) (there-rows (ins_of t) g.nodes.items g.ports.items g.leaves.items there);
            top_inputs = rw ns (there-row (ins_of t) g.nodes.items net.outputs.items there);
          };
    }

-- nothing is shown at first
pub empty-shows : (ins : List Word) (g : Growing) → g.leaves.items ≡ [] → g.ports.items ≡ [] → Shows ins g []
empty-shows ins g e f =
    record {
      within = rw e tt;
      whole = rw e (sym f);
      shown = λ more. rw e refl;
    }
