-- Rows of leaves that are put behind others.
use Rattle.std.proofs.Common.{◌≡◌, ◌<◌, ◌≤◌, ◌+◌, ◌++◌, ℕ, ℤ, zero, suc, List, [], ◌∷◌, map, length, get_or, take, drop, refl, sym, ap, ◌∙◌, subst, arith, append_assoc, append-nil}
use Rattle.std.specs.Prelude.{◌==◌, Bool, true}
use Rattle.std.specs.List.{enumerate_from, flat_map, range_with_len}
use Rattle.std.proofs.lemmas.Bool.Decides.{nat_tests}
use Rattle.std.proofs.lemmas.List.{length-append, length-drop, length-map, length-take-le, take_at, drop_at, drop-append-le, take-append-le, take_more, map_push}
use Rattle.std.proofs.lemmas.List.Concat.{flat_map-append}
use Rattle.cell_grid.specs.Space.{cell_count}
use Rattle.model_tree.specs.declared.component.Component.{Component, Row_of-Component, end_of-Component, more_of-Component, items-the_row-Component, items_hidden-the_row-Component-0}
use Rattle.model_tree.specs.declared.component.Component.TheVariants as in_tree
use Rattle.model_tree.specs.declared.component.Coupled.{Coupled}
use Rattle.model_tree.specs.declared.group.CellGroup.{CellGroup}
use Rattle.model_tree.specs.declared.link.End.TheVariants as end
use Rattle.model_tree.specs.declared.link.Link.{Link}
use Rattle.model_tree.specs.Tree.{Word, name_of, leaf_count}
use Rattle.model_tree.specs.Pull as P
use Rattle.model_tree.specs.Stands.{group_of, part_of, parts_of}
use Rattle.model_tree.specs.CellPorts.{ports_of_cells}
use Rattle.model_tree.proofs.Children.{row_of}
use Rattle.port_net.specs.declared.net.Node.{Node}
use Rattle.port_net.specs.declared.span.Span.{Span}
use Rattle.port_net.specs.declared.growing.Growing.{Growing}
use Rattle.port_net.specs.Nodes.{part_in_span}
use Rattle.port_net.specs.Nets.{AreWithin}
use Rattle.port_net.specs.declared.arrivals.Arrivals.{Arrivals}
use Rattle.port_net.specs.Shown.{plain_sources, AllGive, Join, Extends, leaf_list}
use Rattle.port_net.specs.Arriving.{nodes_to, Brings}
use Rattle.port_net.specs.Outside.{given_in}
use Rattle.port_net.specs.Rows.{Shows, Grows, taken_by, cell_rows}
use Rattle.port_net.proofs.Arrived.{test-child}
use Rattle.port_net.proofs.Coming.{brought-same, given-Coupled, counted_in}

-- names of which there are none
pub no_names : (names : List Word) → (length names == 0) ≡ true → names ≡ []
no_names [] h = refl
no_names (n ∷ names) h = absurd (grind (arith, nat_tests))

-- ---- spans in a longer list

part-longer : (ps row : List ℕ) (s : Span) → s.first + s.count ≤ length ps → part_in_span (ps ++ row) s ≡ part_in_span ps s
part-longer ps row s h =
    let rest = length-drop s.first ps in
    ap (take s.count) (drop-append-le s.first ps row (omega (arith, h))) ∙ take-append-le s.count (drop s.first ps) row (omega (arith, h, rest))

within-longer : (ps row : List ℕ) (leaves : List Span) → AreWithin ps leaves → AreWithin (ps ++ row) leaves
within-longer ps row [] w = tt
within-longer ps row (s ∷ leaves) w =
    let h = w.0 in
    let long = length-append ps row in
    (omega (arith, h, long), within-longer ps row leaves w.1)

parts-longer : {X : Type 0} (f : List ℕ → X) (ps row : List ℕ) (leaves : List Span) → AreWithin ps leaves → map (λ s. f (part_in_span (ps ++ row) s)) leaves ≡ map (λ s. f (part_in_span ps s)) leaves
parts-longer f ps row [] w = refl
parts-longer f ps row (s ∷ leaves) w = rw (part-longer ps row s w.0, parts-longer f ps row leaves w.1) refl

flat-longer : (ps row : List ℕ) (leaves : List Span) → AreWithin ps leaves → flat_map (part_in_span (ps ++ row)) leaves ≡ flat_map (part_in_span ps) leaves
flat-longer ps row [] w = refl
flat-longer ps row (s ∷ leaves) w = rw (part-longer ps row s w.0, flat-longer ps row leaves w.1) refl

within-both : (ps : List ℕ) (xs ys : List Span) → AreWithin ps xs → AreWithin ps ys → AreWithin ps (xs ++ ys)
within-both ps [] ys g h = h
within-both ps (x ∷ xs) ys g h = (g.0, within-both ps xs ys g.1 h)

last-part : (ps row : List ℕ) (s : Span) → s.first ≡ length ps → s.count ≡ length row → part_in_span (ps ++ row) s ≡ row
last-part ps row s e f =
    ap (λ (n : ℕ). take s.count (drop n (ps ++ row))) e ∙ ap (λ (n : ℕ). take n (drop (length ps) (ps ++ row))) f
    ∙ ap (take (length row)) (drop_at ps row (length ps) refl)
    ∙ ap (take (length row)) (sym (append-nil row)) ∙ take_at row [] (length row) refl

-- ---- one leaf more

pub leaf-put : (a b : Growing) (row : List ℕ) (s : Span) → b.nodes.items ≡ a.nodes.items → b.ports.items ≡ a.ports.items ++ row → b.leaves.items ≡ a.leaves.items ++ s ∷ [] → s.first ≡ length a.ports.items → s.count ≡ length row → (ins : List Word) (lists : List (List P.Source)) → AllGive ins a.nodes.items row lists → Grows ins a b (lists ∷ [])
leaf-put a b row s n e l f g ins lists give before h =
    let ps = a.ports.items in
    let ls = a.leaves.items in
    let long = length-append ps row in
    record {
      within = rw (e, l) (within-both (ps ++ row) ls (s ∷ []) (within-longer ps row ls h.within) (let fits : s.first + s.count ≤ length (ps ++ row) = omega (arith, f, g, long) in (fits, tt)));
      whole = rw (e, l)
          (flat_map-append (part_in_span (ps ++ row)) ls (s ∷ []) ∙ ap (λ (xs : List ℕ). xs ++ (part_in_span (ps ++ row) s ++ [])) (flat-longer ps row ls h.within ∙ h.whole)
          ∙ ap (λ (xs : List ℕ). ps ++ xs) (append-nil (part_in_span (ps ++ row) s) ∙ last-part ps row s f g));
      shown = λ more.
          let to = λ (ks : List ℕ). map (plain_sources ins (a.nodes.items ++ more)) ks in
          let last : to (part_in_span (ps ++ row) s) ≡ lists = ap to (last-part ps row s f g) ∙ give more in
          rw (n, e, l)
          (map_push (λ leaf. to (part_in_span (ps ++ row) leaf)) ls s
          ∙ ap (λ (xs : List (List (List P.Source))). xs ++ to (part_in_span (ps ++ row) s) ∷ []) (parts-longer to ps row ls h.within ∙ h.shown more)
          ∙ ap (λ (x : List (List P.Source)). before ++ x ∷ []) last);
    }

-- ---- rows stay, and add up

pub nodes-put : (a b : Growing) (ins : List Word) → Extends a.nodes.items b.nodes.items → b.ports.items ≡ a.ports.items → b.leaves.items ≡ a.leaves.items → Grows ins a b []
nodes-put a b ins g e l before h =
    record {
      within = rw (e, l) h.within;
      whole = rw (e, l) h.whole;
      shown = λ more.
          let order : b.nodes.items ++ more ≡ a.nodes.items ++ (g.more ++ more) = ap (λ (ns : List Node). ns ++ more) g.grown ∙ append_assoc a.nodes.items g.more more in
          rw (order, e, l) (h.shown (g.more ++ more) ∙ sym (append-nil before));
    }

pub grows-on : (ins : List Word) (a b c : Growing) (xs ys : List (List (List P.Source))) → Grows ins a b xs → Grows ins b c ys → Grows ins a c (xs ++ ys)
grows-on ins a b c xs ys g h before old = subst (Shows ins c) (append_assoc before xs ys) (h (before ++ xs) (g before old))

pub grows-none : (ins : List Word) (a : Growing) → Grows ins a a []
grows-none ins a before old = subst (Shows ins a) (sym (append-nil before)) old

pub grows-as : (ins : List Word) (a b : Growing) (xs ys : List (List (List P.Source))) → xs ≡ ys → Grows ins a b xs → Grows ins a b ys
grows-as ins a b xs ys e = subst (λ (zs : List (List (List P.Source))). Grows ins a b zs) e

-- ---- children as a list

taken-row : (n : _) (row : Row_of-Component n) (settings : ℕ → List ℤ) (first : ℕ) (own : Word → Word → List P.Source) → P.all_taken_in (parts_of row settings) first leaf_list own ≡ taken_by (items-the_row-Component n row) settings first own
taken-row n end_of-Component settings first own = refl
taken-row n (more_of-Component c rest) settings first own =
    ap (λ (xs : List (List (List P.Source))). P.taken_in (part_of c settings) first leaf_list (own (name_of (part_of c settings))) ++ xs)
    (taken-row _ rest settings (first + leaf_count (part_of c settings)) own)

pub taken-Coupled : (c : Coupled) (settings : ℕ → List ℤ) (first : ℕ) (own : Word → Word → List P.Source) → taken_by c.children.items settings first own ≡ P.all_taken_in (parts_of (row_of (in_tree.Coupled c)).1 settings) first leaf_list own
taken-Coupled c settings first own =
    let row = row_of (in_tree.Coupled c) in
    sym (taken-row row.0 row.1 settings first own ∙ ap (λ cs. taken_by cs settings first own) (items_hidden-the_row-Component-0 c.children))

-- what links bring to the inputs of children
abbrev pub own_of : Coupled → (ℕ → List ℤ) → ℕ → (Word → List P.Source) → Word → Word → List P.Source
own_of c settings first lists child port =
    P.what_links_bring c.links.items (P.is_child port child) lists (P.given_by (parts_of (row_of (in_tree.Coupled c)).1 settings) first leaf_list) P.nothing

pub coupled-takes : (c : Coupled) (settings : ℕ → List ℤ) (first : ℕ) (ins : List Word) (ns : List Node) (a : Arrivals) (lists : Word → List P.Source) → Brings ins ns a (λ (l : Link). P.at_source l.from lists (given_in c.children.items settings first) P.nothing) c.links.items
    → (child port : Word) → Join ins ns (nodes_to a (P.is_child port child)) (own_of c settings first lists child port)
coupled-takes c settings first ins ns a lists h child port =
    subst (λ (xs : List P.Source). Join ins ns (nodes_to a (P.is_child port child)) xs)
    (sym (brought-same c.links.items (P.is_child port child) lists (P.given_by (parts_of (row_of (in_tree.Coupled c)).1 settings) first leaf_list) (given_in c.children.items settings first) P.nothing (given-Coupled c settings first)))
    (h (P.is_child port child) (end.Child port child) (test-child port child))

-- one component more
pub taken-behind : (cs : List Component) (c : Component) (settings : ℕ → List ℤ) (first n : ℕ) (own : Word → Word → List P.Source) → n ≡ first + counted_in cs settings → taken_by (cs ++ c ∷ []) settings first own ≡ taken_by cs settings first own ++ P.taken_in (part_of c settings) n leaf_list (own (name_of (part_of c settings)))
taken-behind [] c settings first n own e =
    append-nil (P.taken_in (part_of c settings) first leaf_list (own (name_of (part_of c settings))))
    ∙ ap (λ (m : ℕ). P.taken_in (part_of c settings) m leaf_list (own (name_of (part_of c settings)))) (let h : first ≡ n = omega (arith, e) in h)
taken-behind (d ∷ cs) c settings first n own e =
    let here = P.taken_in (part_of d settings) first leaf_list (own (name_of (part_of d settings))) in
    ap (λ (xs : List (List (List P.Source))). here ++ xs) (taken-behind cs c settings (first + leaf_count (part_of d settings)) n own (omega (arith, e)))
    ∙ sym (append_assoc here (taken_by cs settings (first + leaf_count (part_of d settings)) own) _)

-- ---- cells

enumerate-behind : {X : Type 0} (n : ℕ) (xs : List X) (x : X) (m : ℕ) → m ≡ n + length xs → enumerate_from n (xs ++ x ∷ []) ≡ enumerate_from n xs ++ (m, x) ∷ []
enumerate-behind {X} n [] x m e = ap (λ (k : ℕ). let p : ℕ × X = (k, x) in p ∷ []) (let h : n ≡ m = omega (arith, e) in h)
enumerate-behind {X} n (y ∷ xs) x m e = ap (λ (ps : List (ℕ × X)). (n, y) ∷ ps) (enumerate-behind (n + 1) xs x m (omega (arith, e)))

pub cells-behind : (lists : ℕ → Word → List P.Source) (xs : List (List Word)) (x : List Word) (m : ℕ) → m ≡ length xs → cell_rows lists (xs ++ x ∷ []) ≡ cell_rows lists xs ++ map (lists m) x ∷ []
cells-behind lists xs x m e =
    ap (map (λ (p : ℕ × List Word). map (lists p.0) p.1)) (enumerate-behind 0 xs x m (omega (arith, e)))
    ∙ map_push (λ (p : ℕ × List Word). map (lists p.0) p.1) (enumerate_from 0 xs) (m, x)

rows-of : (lists : ℕ → Word → List P.Source) (f : ℕ → List Word) (n c : ℕ) → map (λ (p : ℕ × List Word). map (lists p.0) p.1) (enumerate_from n (map f (range_with_len n c))) ≡ map (λ k. map (lists k) (f k)) (range_with_len n c)
rows-of lists f n zero = refl
rows-of lists f n (suc c) = ap (λ (xs : List (List (List P.Source))). map (lists n) (f n) ∷ xs) (rows-of lists f (n + 1) c)

pub group-rows : (g : CellGroup) (settings : ℕ → List ℤ) (first : ℕ) (own : Word → List P.Source) (names : List (List Word)) → names ≡ ports_of_cells (group_of g) → cell_rows (λ n port. P.what_links_bring g.links.items (P.is_cell port n) own (λ p c. []) (λ m. leaf_list (first + m))) names ≡ P.taken_in (part_of (in_tree.Cells g) settings) first leaf_list own
group-rows g settings first own names e =
    let lists = λ (n : ℕ) (port : Word). P.what_links_bring g.links.items (P.is_cell port n) own (λ p c. []) (λ m. leaf_list (first + m)) in
    ap (cell_rows lists) e ∙ rows-of lists (P.cell_ports (group_of g)) 0 (cell_count g.grid)

-- ---- steps of loops

pub grows-child : (ins : List Word) (a b d : Growing) (cs : List Component) (i : ℕ) (c : Component) (settings : ℕ → List ℤ) (first n : ℕ) (own : Word → Word → List P.Source) → take (i + 1) cs ≡ take i cs ++ c ∷ [] → n ≡ first + counted_in (take i cs) settings → Grows ins a b (taken_by (take i cs) settings first own) → Grows ins b d (P.taken_in (part_of c settings) n leaf_list (own (name_of (part_of c settings)))) → Grows ins a d (taken_by (take (i + 1) cs) settings first own)
grows-child ins a b d cs i c settings first n own took e g h =
    grows-as ins a d (taken_by (take i cs) settings first own ++ P.taken_in (part_of c settings) n leaf_list (own (name_of (part_of c settings)))) (taken_by (take (i + 1) cs) settings first own)
    (sym (ap (λ (xs : List Component). taken_by xs settings first own) took ∙ taken-behind (take i cs) c settings first n own e))
    (grows-on ins a b d (taken_by (take i cs) settings first own) (P.taken_in (part_of c settings) n leaf_list (own (name_of (part_of c settings)))) g h)

pub grows-cell : {X : Type 0} (to : X → List Word) (ins : List Word) (a b d : Growing) (xs : List X) (i n : ℕ) (x : X) (lists : ℕ → Word → List P.Source) → i < length xs → x ≡ get_or xs i x → n ≡ i → Grows ins a b (cell_rows lists (map to (take i xs))) → Grows ins b d (map (lists n) (to x) ∷ []) → Grows ins a d (cell_rows lists (map to (take (i + 1) xs)))
grows-cell to ins a b d xs i n x lists h e f g step =
    let long : n ≡ length (map to (take i xs)) = f ∙ sym (length-map (take i xs) to ∙ length-take-le i xs (omega arith)) in
    let took : map to (take (i + 1) xs) ≡ map to (take i xs) ++ to x ∷ [] = ap (map to) (take_more xs i x h ∙ ap (λ y. take i xs ++ y ∷ []) (sym e)) ∙ map_push to (take i xs) x in
    grows-as ins a d (cell_rows lists (map to (take i xs)) ++ map (lists n) (to x) ∷ []) (cell_rows lists (map to (take (i + 1) xs)))
    (sym (ap (cell_rows lists) took ∙ cells-behind lists (map to (take i xs)) (to x) n long))
    (grows-on ins a b d (cell_rows lists (map to (take i xs))) (map (lists n) (to x) ∷ []) g step)
