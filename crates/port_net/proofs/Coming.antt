-- What components give: a coupled component, and some components one after another.
use Rattle.std.proofs.Common.{◌≡◌, ◌+◌, ◌++◌, ℕ, ℤ, zero, suc, Bool, List, [], ◌∷◌, take, refl, sym, ap, ◌∙◌, subst, arith}
use Rattle.std.specs.Prelude.{slice_get, Some, if◌then◌else◌}
use Rattle.std.specs.List.{filter, flat_map}
use Rattle.std.specs.Str.{bytes_eq}
use Rattle.std.proofs.lemmas.List.Sums.{sum_by-cons}
use Rattle.model_tree.specs.declared.component.Component.{Component, Row_of-Component, end_of-Component, more_of-Component, items-the_row-Component, items_hidden-the_row-Component-0}
use Rattle.model_tree.specs.declared.component.Component.TheVariants as in_tree
use Rattle.model_tree.specs.declared.component.Coupled.{Coupled}
use Rattle.model_tree.specs.declared.group.CellGroup.{CellGroup}
use Rattle.model_tree.specs.declared.link.End.{End}
use Rattle.model_tree.specs.declared.link.End.TheVariants as end
use Rattle.model_tree.specs.declared.link.Link.{Link}
use Rattle.model_tree.specs.Tree.{Word, name_of, leaf_count, leaf_counts}
use Rattle.model_tree.specs.Pull as P
use Rattle.model_tree.specs.Stands.{part_of, parts_of}
use Rattle.model_tree.proofs.Children.{row_of}
use Rattle.port_net.specs.declared.net.Node.{Node}
use Rattle.port_net.specs.declared.ports.Outputs.{Outputs}
use Rattle.port_net.specs.declared.arrivals.Arrivals.{Arrivals}
use Rattle.port_net.specs.Shown.{Join, Extends, leaf_list}
use Rattle.port_net.specs.Arriving.{nodes_to, Brings}
use Rattle.port_net.specs.Outside.{given_in, AreOutputs, AllOutputs, leaves_of}
use Rattle.port_net.proofs.Arrived.{test-own}
use Rattle.port_net.proofs.Standing.{are-kept}

-- ---- links bring the same where children give the same

at_source-same : {A : Type 0} (e : End) (own : Word → List A) (f g : Word → Word → List A) (cell : ℕ → List A) → ((port child : Word) → f port child ≡ g port child) → P.at_source e own f cell ≡ P.at_source e own g cell
at_source-same (end.Own p) own f g cell h = refl
at_source-same (end.Child p c) own f g cell h = h p c
at_source-same (end.Cell p n) own f g cell h = refl

from-same : {A : Type 0} (links : List Link) (own : Word → List A) (f g : Word → Word → List A) (cell : ℕ → List A) → ((port child : Word) → f port child ≡ g port child) → flat_map (λ (l : Link). P.at_source l.from own f cell) links ≡ flat_map (λ (l : Link). P.at_source l.from own g cell) links
from-same [] own f g cell h = refl
from-same (l ∷ links) own f g cell h = rw (at_source-same l.from own f g cell h, from-same links own f g cell h) refl

pub brought-same : {A : Type 0} (links : List Link) (into : End → Bool) (own : Word → List A) (f g : Word → Word → List A) (cell : ℕ → List A) → ((port child : Word) → f port child ≡ g port child) → P.what_links_bring links into own f cell ≡ P.what_links_bring links into own g cell
brought-same links into own f g cell h = from-same (filter (λ (l : Link). into l.to) links) own f g cell h

-- ---- children as a list

given-row : (n : _) (row : Row_of-Component n) (settings : ℕ → List ℤ) (first : ℕ) (port child : Word) → P.given_by (parts_of row settings) first leaf_list port child ≡ given_in (items-the_row-Component n row) settings first port child
given-row n end_of-Component settings first port child = refl
given-row n (more_of-Component c rest) settings first port child =
    ap (λ (xs : List P.Source). if bytes_eq (name_of (part_of c settings)) child then P.given_out (part_of c settings) first leaf_list port else xs)
    (given-row _ rest settings (first + leaf_count (part_of c settings)) port child)

pub given-Coupled : (c : Coupled) (settings : ℕ → List ℤ) (first : ℕ) (port child : Word) → P.given_by (parts_of (row_of (in_tree.Coupled c)).1 settings) first leaf_list port child ≡ given_in c.children.items settings first port child
given-Coupled c settings first port child =
    let row = row_of (in_tree.Coupled c) in
    given-row row.0 row.1 settings first port child ∙ ap (λ cs. given_in cs settings first port child) (items_hidden-the_row-Component-0 c.children)

-- the links of a coupled component bring out what comes out
pub coupled-gives : (ns : List Node) (c : Coupled) (first : ℕ) (settings : ℕ → List ℤ) (ins : List Word) (a : Arrivals) (port : Word) → Brings ins ns a (λ (l : Link). P.at_source l.from P.nothing (given_in c.children.items settings first) P.nothing) c.links.items
    → Join ins ns (nodes_to a (P.is_own port)) (P.given_out (part_of (in_tree.Coupled c) settings) first leaf_list port)
coupled-gives ns c first settings ins a port h =
    subst (λ (xs : List P.Source). Join ins ns (nodes_to a (P.is_own port)) xs)
    (sym (brought-same c.links.items (P.is_own port) P.nothing (P.given_by (parts_of (row_of (in_tree.Coupled c)).1 settings) first leaf_list) (given_in c.children.items settings first) P.nothing (given-Coupled c settings first)))
    (h (P.is_own port) (end.Own port) (test-own port))

-- the same for a group
pub group-gives : (ns : List Node) (g : CellGroup) (first : ℕ) (settings : ℕ → List ℤ) (ins : List Word) (a : Arrivals) (port : Word) → Brings ins ns a (λ (l : Link). P.at_source l.from P.nothing (λ p c. []) (λ n. leaf_list (first + n))) g.links.items
    → Join ins ns (nodes_to a (P.is_own port)) (P.given_out (part_of (in_tree.Cells g) settings) first leaf_list port)
group-gives ns g first settings ins a port h = h (P.is_own port) (end.Own port) (test-own port)

-- ---- how many leaves there are

abbrev pub counted_in : List Component → (ℕ → List ℤ) → ℕ
counted_in [] settings = 0
counted_in (c ∷ cs) settings = leaf_count (part_of c settings) + counted_in cs settings

counts-row : (n : _) (row : Row_of-Component n) (settings : ℕ → List ℤ) → leaf_counts (parts_of row settings) ≡ counted_in (items-the_row-Component n row) settings
counts-row n end_of-Component settings = refl
counts-row n (more_of-Component c rest) settings = ap (λ m. leaf_count (part_of c settings) + m) (counts-row _ rest settings)

counts-are : (ns : List Node) (cs : List Component) (first : ℕ) (os : List Outputs) (settings : ℕ → List ℤ) → AllOutputs ns cs first os → leaves_of os ≡ counted_in cs settings
counts-are ns [] first [] settings h = refl
counts-are ns [] first (o ∷ os) settings h = absurd h
counts-are ns (c ∷ cs) first [] settings h = absurd h
counts-are ns (c ∷ cs) first (o ∷ os) settings h =
    sum_by-cons (λ (p : Outputs). p.leaves) o os ∙ rw (h.0.leaves settings, counts-are ns cs (first + o.leaves) os settings h.1) refl

pub coupled-leaves : (ns : List Node) (c : Coupled) (first : ℕ) (os : List Outputs) (settings : ℕ → List ℤ) → AllOutputs ns c.children.items first os → leaves_of os ≡ leaf_count (part_of (in_tree.Coupled c) settings)
coupled-leaves ns c first os settings h =
    let row = row_of (in_tree.Coupled c) in
    counts-are ns c.children.items first os settings h
    ∙ sym (counts-row row.0 row.1 settings ∙ ap (λ cs. counted_in cs settings) (items_hidden-the_row-Component-0 c.children))

-- ---- an atomic component, and none

pub atomic-outputs : (ns : List Node) (c : Component) (a : _) (first : ℕ) (out : Outputs) → c ≡ in_tree.Atomic a → out.first ≡ first → out.leaves ≡ 1 → AreOutputs ns c first out
atomic-outputs ns c a first out is e f = subst (λ (x : Component). AreOutputs ns x first out) (sym is) (record { first = e; leaves = λ settings. f; gives = tt })

pub leaves-none : (first : ℕ) (os : List Outputs) → os ≡ [] → first ≡ first + leaves_of os
leaves-none first os e = (let none : first ≡ first + 0 = omega arith in none) ∙ ap (λ (ps : List Outputs). first + leaves_of ps) (sym e)

-- ---- one component more

outputs-behind : (a b : List Node) (cs : List Component) (c : Component) (first : ℕ) (os : List Outputs) (o : Outputs) → Extends a b → AllOutputs a cs first os → AreOutputs b c (first + leaves_of os) o → AllOutputs b (cs ++ c ∷ []) first (os ++ o ∷ [])
outputs-behind a b [] c first [] o g h one = (subst (λ (n : ℕ). AreOutputs b c n o) (let none : first + 0 ≡ first = omega arith in none) one, tt)
outputs-behind a b [] c first (p ∷ os) o g h one = absurd h
outputs-behind a b (d ∷ cs) c first [] o g h one = absurd h
outputs-behind a b (d ∷ cs) c first (p ∷ os) o g h one =
    let sum : first + leaves_of (p ∷ os) ≡ (first + p.leaves) + leaves_of os = omega (arith, sum_by-cons (λ (q : Outputs). q.leaves) p os) in
    (are-kept a b d first p g h.0, outputs-behind a b cs c (first + p.leaves) os o g h.1 (subst (λ (n : ℕ). AreOutputs b c n o) sum one))

pub outputs-more : (a b : List Node) (cs : List Component) (i : ℕ) (c : Component) (first next : ℕ) (os os' : List Outputs) (o : Outputs) → Extends a b → AllOutputs a (take i cs) first os → next ≡ first + leaves_of os → AreOutputs b c next o → os' ≡ os ++ o ∷ [] → take (i + 1) cs ≡ take i cs ++ c ∷ [] → AllOutputs b (take (i + 1) cs) first os'
outputs-more a b cs i c first next os os' o g h n one e took =
    rw (e, took) (outputs-behind a b (take i cs) c first os o g h (subst (λ (m : ℕ). AreOutputs b c m o) n one))

pub leaves-more : (first next next' : ℕ) (os os' : List Outputs) (o : Outputs) → next ≡ first + leaves_of os → next' ≡ next + o.leaves → os' ≡ os ++ o ∷ [] → next' ≡ first + leaves_of os'
leaves-more first next next' os os' o n m e =
    let sum : leaves_of (os ++ o ∷ []) ≡ leaves_of os + o.leaves = pushed os in
    m ∙ rw (e, sum) (omega (arith, n))
  where
    pushed : (os : List Outputs) → leaves_of (os ++ o ∷ []) ≡ leaves_of os + o.leaves
    pushed [] = sum_by-cons (λ (q : Outputs). q.leaves) o [] ∙ omega arith
    pushed (p ∷ ps) = omega (arith, sum_by-cons (λ (q : Outputs). q.leaves) p (ps ++ o ∷ []), sum_by-cons (λ (q : Outputs). q.leaves) p ps, pushed ps)

-- the first leaf of the component at a place
pub first-at : (ns : List Node) (cs : List Component) (first : ℕ) (os : List Outputs) (settings : ℕ → List ℤ) (i : ℕ) (o : Outputs) → AllOutputs ns cs first os → slice_get os i ≡ Some o → o.first ≡ first + counted_in (take i cs) settings
first-at ns [] first [] settings i o h f = absurd (cc)
first-at ns [] first (p ∷ os) settings i o h f = absurd h
first-at ns (c ∷ cs) first [] settings i o h f = absurd h
first-at ns (c ∷ cs) first (p ∷ os) settings zero o h f =
    let same : p ≡ o = cc in
    let none : first ≡ first + 0 = omega arith in
    sym (ap (λ (q : Outputs). q.first) same) ∙ h.0.first ∙ none
first-at ns (c ∷ cs) first (p ∷ os) settings (suc i) o h f =
    let rest = first-at ns cs (first + p.leaves) os settings i o h.1 f in
    let leaves = h.0.leaves settings in
    omega (arith, rest, leaves)
