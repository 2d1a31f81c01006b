-- Processors that are put behind others.
use Rattle.std.proofs.Common.{◌≡◌, ◌+◌, ◌++◌, ◌<◌, ℕ, ℤ, zero, suc, Some, None, List, [], ◌∷◌, map, take, length, get_or, refl, sym, ap, ◌∙◌, subst, arith, append_assoc, append-nil, length-append}
use Rattle.std.specs.Prelude.{slice_get}
use Rattle.std.specs.List.{enumerate_from, range_with_len}
use Rattle.std.proofs.lemmas.List.{length-map, length-take-le, take_more, map_push}
use Rattle.cell_grid.specs.Space.{cell_count}
use Rattle.model_tree.specs.declared.component.Coupled.{Coupled}
use Rattle.model_tree.specs.declared.component.Component.{Component}
use Rattle.model_tree.specs.declared.component.Component.TheVariants as in_tree
use Rattle.model_tree.specs.declared.group.CellGroup.{CellGroup}
use Rattle.model_tree.specs.declared.link.End.{End}
use Rattle.model_tree.specs.declared.link.End.TheVariants as owned
use Rattle.model_tree.specs.Tree.{Word, Group, Tree, coupled, cells, atomic, leaf_count}
use Rattle.model_tree.specs.Pull.{is_own, is_child, is_cell, cell_ports}
use Rattle.model_tree.specs.CellPorts.{ports_of_cells}
use Rattle.model_tree.specs.Stands.{part_of, parts_of, group_of}
use Rattle.model_tree.proofs.Children.{row_of as children_of}
use Rattle.port_net.specs.Arriving.{nodes_to}
use Rattle.port_net.proofs.Arrived.{test-child, test-cell}
use Rattle.served_tree.specs.Processors.{Node, Processor, size, child_numbers, processors, processors_from, all_processors_from, at_processor, node_name, node_ins}
use Rattle.served_tree.specs.Places.{ContainsFrom, node_of}
use Rattle.served_tree.specs.Rows.{Ref, refs_into, link_ref, group_ref}
use Rattle.served_tree.proofs.Lists.{stands-itself}
use Rattle.served_tree.proofs.Placing.{size-is, cell_processor}
use Rattle.tree_tables.specs.declared.entry.Entry.{Entry}
use Rattle.tree_tables.specs.declared.growing.Growing.{Growing}
use Rattle.tree_tables.specs.declared.incoming.Links.{Links}
use Rattle.tree_tables.specs.Stations.{Station, rows_into, station_of, stations, station_in}
use Rattle.tree_tables.specs.Children.{sizes_of, leaves_of, numbers_of, processors_of}
use Rattle.tree_tables.specs.Begins.{coupled_begin}
use Rattle.tree_tables.specs.Incoming.{begins_at, rows_to, AreLinks}
use Rattle.tree_tables.specs.Walk.{inner_station, leaf_station, PutsBehind, with_ins, part_stations, all_stations, child_rows, cell_stations}
use Rattle.tree_tables.proofs.Listed.{numbers-Coupled, processors-Coupled, took}
use Rattle.tree_tables.proofs.Found.{same-begin}

-- ---- one behind another

pub puts-none : (a : Growing) → PutsBehind a a []
puts-none a = sym (append-nil (map station_in a.entries.items))

pub puts-on : (a b c : Growing) (xs ys : List Station) → PutsBehind a b xs → PutsBehind b c ys
    → PutsBehind a c (xs ++ ys)
puts-on a b c xs ys g h =
    h ∙ ap (λ ss. ss ++ ys) g ∙ append_assoc (map station_in a.entries.items) xs ys

pub length-puts : (a b : Growing) (xs : List Station) → PutsBehind a b xs
    → length b.entries.items ≡ length a.entries.items + length xs
length-puts a b xs h =
    sym (length-map b.entries.items station_in) ∙ ap length h
    ∙ length-append (map station_in a.entries.items) xs
    ∙ ap (λ n. n + length xs) (length-map a.entries.items station_in)

length-with : (rows : List (List Ref)) (ss : List Station) → length (with_ins rows ss) ≡ length ss
length-with rows [] = refl
length-with rows (s ∷ ss) = refl

length-part : (ps : List Processor) (c : Tree) (n q f : ℕ) (rows : List (List Ref))
    → length (part_stations ps c n q f rows) ≡ size c
length-part ps c n q f rows =
    length-with rows (map (station_of ps) (processors_from c n q f))
    ∙ length-map (processors_from c n q f) (station_of ps) ∙ size-is c n q f

length-all : (ps : List Processor) (cs : List Component) (settings : ℕ → List ℤ) (n q f : ℕ)
    (rows : Node → List (List Ref))
    → length (all_stations ps cs settings n q f rows) ≡ sizes_of cs settings
length-all ps [] settings n q f rows = refl
length-all ps (c ∷ cs) settings n q f rows =
    let t = part_of c settings in
    length-append (part_stations ps t n q f (rows (node_of t f))) (all_stations ps cs settings (n + size t) q (f + leaf_count t) rows)
    ∙ (λ i. length-part ps t n q f (rows (node_of t f)) i + length-all ps cs settings (n + size t) q (f + leaf_count t) rows i)

-- ---- one child more

all-behind : (ps : List Processor) (cs : List Component) (c : Component) (settings : ℕ → List ℤ)
    (n q f m g : ℕ) (rows : Node → List (List Ref)) → m ≡ n + sizes_of cs settings
    → g ≡ f + leaves_of cs settings
    → all_stations ps (cs ++ c ∷ []) settings n q f rows
    ≡ all_stations ps cs settings n q f rows
    ++ part_stations ps (part_of c settings) m q g (rows (node_of (part_of c settings) g))
all-behind ps [] c settings n q f m g rows e l =
    let t = part_of c settings in
    let there : n ≡ m = omega (arith, e) in
    let leaf : f ≡ g = omega (arith, l) in
    append-nil (part_stations ps t n q f (rows (node_of t f)))
    ∙ ap (λ k. part_stations ps t k q f (rows (node_of t f))) there
    ∙ ap (λ k. part_stations ps t m q k (rows (node_of t k))) leaf
all-behind ps (d ∷ ds) c settings n q f m g rows e l =
    let t = part_of d settings in
    let first = part_stations ps t n q f (rows (node_of t f)) in
    ap (λ ss. first ++ ss) (all-behind ps ds c settings (n + size t) q (f + leaf_count t) m g rows (omega (arith, e)) (omega (arith, l)))
    ∙ sym (append_assoc first (all_stations ps ds settings (n + size t) q (f + leaf_count t) rows) _)

pub puts-child : (ps : List Processor) (a b d : Growing) (cs : List Component) (i : ℕ)
    (c : Component) (settings : ℕ → List ℤ) (q : ℕ) (rows : Node → List (List Ref))
    → i < length cs → c ≡ get_or cs i c
    → b.leaves ≡ a.leaves + leaves_of (take i cs) settings
    → PutsBehind a b
    (all_stations ps (take i cs) settings (length a.entries.items) q a.leaves rows)
    → PutsBehind b d
    (part_stations ps (part_of c settings) (length b.entries.items) q b.leaves
    (rows (node_of (part_of c settings) b.leaves)))
    → PutsBehind a d
    (all_stations ps (take (i + 1) cs) settings (length a.entries.items) q a.leaves rows)
puts-child ps a b d cs i c settings q rows within is leaves g h =
    let n = length a.entries.items in
    let m = length b.entries.items in
    let before = all_stations ps (take i cs) settings n q a.leaves rows in
    let one = part_stations ps (part_of c settings) m q b.leaves (rows (node_of (part_of c settings) b.leaves)) in
    let there : m ≡ n + sizes_of (take i cs) settings =
    length-puts a b before g ∙ ap (λ k. n + k) (length-all ps (take i cs) settings n q a.leaves rows) in
    subst (PutsBehind a d)
    (sym (ap (λ xs. all_stations ps xs settings n q a.leaves rows) (took cs i c within is)
    ∙ all-behind ps (take i cs) c settings n q a.leaves m b.leaves rows there leaves))
    (puts-on a b d before one g h)

pub stands-next : (ps : List Processor) (a b : Growing) (cs : List Component)
    (settings : ℕ → List ℤ) (q : ℕ) (rows : Node → List (List Ref))
    → PutsBehind a b (all_stations ps cs settings (length a.entries.items) q a.leaves rows)
    → length b.entries.items ≡ length a.entries.items + sizes_of cs settings
stands-next ps a b cs settings q rows g =
    length-puts a b (all_stations ps cs settings (length a.entries.items) q a.leaves rows) g
    ∙ ap (λ k. length a.entries.items + k)
    (length-all ps cs settings (length a.entries.items) q a.leaves rows)

-- ---- the children of a component that stands there

own-ins : (ps : List Processor) (t : Tree) (n q f : ℕ) (rows : List (List Ref))
    → rows ≡ at_processor ps q [] (λ p. rows_into ps p (node_of t f))
    → part_stations ps t n q f rows ≡ map (station_of ps) (processors_from t n q f)
own-ins ps (coupled name ins outs children links) n q f rows e =
    λ i. with_ins (e i) (map (station_of ps) (processors_from (coupled name ins outs children links) n q f))
own-ins ps (cells g) n q f rows e =
    λ i. with_ins (e i) (map (station_of ps) (processors_from (cells g) n q f))
own-ins ps (atomic name class settings) n q f rows e =
    λ i. with_ins (e i) (map (station_of ps) (processors_from (atomic name class settings) n q f))

all-own : (ps : List Processor) (cs : List Component) (settings : ℕ → List ℤ) (n q f : ℕ)
    (rows : Node → List (List Ref))
    → ((node : Node) → rows node ≡ at_processor ps q [] (λ p. rows_into ps p node))
    → all_stations ps cs settings n q f rows
    ≡ map (station_of ps) (processors_of cs settings n q f)
all-own ps [] settings n q f rows own = refl
all-own ps (c ∷ cs) settings n q f rows own =
    let t = part_of c settings in
    (λ i. own-ins ps t n q f (rows (node_of t f)) (own (node_of t f)) i
    ++ all-own ps cs settings (n + size t) q (f + leaf_count t) rows own i)
    ∙ sym (map-both (station_of ps) (processors_from t n q f) (processors_of cs settings (n + size t) q (f + leaf_count t)))
  where
    map-both : (g : Processor → Station) (xs ys : List Processor)
        → map g (xs ++ ys) ≡ map g xs ++ map g ys
    map-both g [] ys = refl
    map-both g (x ∷ xs) ys = ap (λ ss. g x ∷ ss) (map-both g xs ys)

pub puts-coupled : (c : Coupled) (settings : ℕ → List ℤ) (ps : List Processor) (q : ℕ)
    (rows outs : List (List Ref)) (old mid new : Growing) (numbers : List ℕ) (links : Links)
    → ContainsFrom ps (length old.entries.items)
    (processors_from (part_of (in_tree.Coupled c) settings) (length old.entries.items) q old.leaves)
    → numbers ≡ numbers_of c.children.items settings (length old.entries.items + 1)
    → AreLinks links (coupled_begin c.children.items settings numbers [])
    (coupled_begin c.children.items settings numbers c.ins.items) c.links.items
    → outs ≡ rows_to links.outward.items links.arrivals is_own c.outs.items
    → PutsBehind old mid (inner_station q numbers outs rows ∷ []) → mid.leaves ≡ old.leaves
    → (ContainsFrom ps (length mid.entries.items)
    (processors_of c.children.items settings (length mid.entries.items) (length old.entries.items)
    mid.leaves)
    → PutsBehind mid new
    (all_stations ps c.children.items settings (length mid.entries.items)
    (length old.entries.items) mid.leaves (child_rows links)))
    → PutsBehind old new
    (part_stations ps (part_of (in_tree.Coupled c) settings) (length old.entries.items) q
    old.leaves rows)
puts-coupled c settings ps q rows outs old mid new numbers links stands kids are outs-are first same rest =
    subst (PutsBehind old new) whole
    (puts-on old mid new (inner_station q numbers outs rows ∷ []) (all_stations ps cs settings (n + 1) n old.leaves (child_rows links)) first behind)
  where
    cs : List Component
    cs = c.children.items

    n : ℕ
    n = length old.entries.items

    below : ContainsFrom ps (n + 1) (processors_of cs settings (n + 1) n old.leaves)
    below = subst (ContainsFrom ps (n + 1)) (processors-Coupled c settings (n + 1) n old.leaves) stands.1

    there : length mid.entries.items ≡ n + 1
    there = length-puts old mid (inner_station q numbers outs rows ∷ []) first

    behind : PutsBehind mid new (all_stations ps cs settings (n + 1) n old.leaves (child_rows links))
    behind =
        subst (λ m. ContainsFrom ps m (processors_of cs settings m n old.leaves) → PutsBehind mid new (all_stations ps cs settings m n old.leaves (child_rows links))) there
        (subst (λ f. ContainsFrom ps (length mid.entries.items) (processors_of cs settings (length mid.entries.items) n f) → PutsBehind mid new (all_stations ps cs settings (length mid.entries.items) n f (child_rows links))) same rest)
        below

    named : List ℕ
    named = child_numbers (parts_of (children_of (in_tree.Coupled c)).1 settings) (n + 1)

    by-name : numbers ≡ named
    by-name = kids ∙ sym (numbers-Coupled c settings (n + 1))

    begins : (ins : List Word) (e : End) → coupled_begin cs settings numbers ins e ≡ link_ref ps named ins e
    begins ins e =
        ap (λ ns. coupled_begin cs settings ns ins e) kids
        ∙ same-begin ps cs settings (n + 1) n old.leaves ins below e
        ∙ ap (λ ns. link_ref ps ns ins e) (sym (numbers-Coupled c settings (n + 1)))

    out-row : (port : Word) → begins_at links.outward.items (nodes_to links.arrivals (is_own port)) ≡ refs_into (link_ref ps named []) c.links.items (is_own port)
    out-row port = are.outward port ∙ (λ i. refs_into (λ e. begins [] e i) c.links.items (is_own port))

    in-row : (port name : Word) → begins_at links.inward.items (nodes_to links.arrivals (is_child port name)) ≡ refs_into (link_ref ps named c.ins.items) c.links.items (is_child port name)
    in-row port name = are.inward (is_child port name) (owned.Child port name) (test-child port name) ∙ (λ i. refs_into (λ e. begins c.ins.items e i) c.links.items (is_child port name))

    own : (node : Node) → child_rows links node ≡ at_processor ps n [] (λ p. rows_into ps p node)
    own node =
        (λ i. map (λ port. in-row port (node_name node) i) (node_ins node))
        ∙ ap (λ o. elim o [ None ↦ [] | Some p ↦ rows_into ps p node ]) (sym stands.0)

    outs-same : outs ≡ map (λ port. refs_into (link_ref ps named []) c.links.items (is_own port)) c.outs.items
    outs-same = outs-are ∙ (λ i. map (λ port. out-row port i) c.outs.items)

    children : all_stations ps cs settings (n + 1) n old.leaves (child_rows links) ≡ map (station_of ps) (all_processors_from (parts_of (children_of (in_tree.Coupled c)).1 settings) (n + 1) n old.leaves)
    children =
        all-own ps cs settings (n + 1) n old.leaves (child_rows links) own
        ∙ ap (map (station_of ps)) (sym (processors-Coupled c settings (n + 1) n old.leaves))

    whole : inner_station q numbers outs rows ∷ all_stations ps cs settings (n + 1) n old.leaves (child_rows links) ≡ part_stations ps (part_of (in_tree.Coupled c) settings) n q old.leaves rows
    whole = λ i. inner_station q (by-name i) (outs-same i) rows ∷ children i

-- ---- the cells of a group

cells-row : (F : ℕ → List Word → Station) (names : ℕ → List Word) (n k : ℕ)
    → map (λ (p : ℕ × List Word). F p.0 p.1) (enumerate_from n (map names (range_with_len n k)))
    ≡ map (λ m. F m (names m)) (range_with_len n k)
cells-row F names n zero = refl
cells-row F names n (suc k) = ap (λ ss. F n (names n) ∷ ss) (cells-row F names (n + 1) k)

map-twice : (f : ℕ → Processor) (g : Processor → Station) (xs : List ℕ)
    → map g (map f xs) ≡ map (λ m. g (f m)) xs
map-twice f g [] = refl
map-twice f g (x ∷ xs) = ap (λ ss. g (f x) ∷ ss) (map-twice f g xs)

pub puts-group : (g : CellGroup) (ps : List Processor) (q : ℕ) (rows outs : List (List Ref))
    (old mid new : Growing) (numbers : List ℕ) (links : Links) (names : List (List Word))
    → ContainsFrom ps (length old.entries.items)
    (processors_from (cells (group_of g)) (length old.entries.items) q old.leaves)
    → numbers ≡ range_with_len (length old.entries.items + 1) (cell_count g.grid)
    → AreLinks links (group_ref numbers []) (group_ref numbers g.ins.items) g.links.items
    → outs ≡ rows_to links.outward.items links.arrivals is_own g.outs.items
    → names ≡ ports_of_cells (group_of g)
    → PutsBehind old mid (inner_station q numbers outs rows ∷ []) → mid.leaves ≡ old.leaves
    → PutsBehind mid new (cell_stations links (length old.entries.items) mid.leaves names)
    → PutsBehind old new
    (part_stations ps (cells (group_of g)) (length old.entries.items) q old.leaves rows)
puts-group g ps q rows outs old mid new numbers links names stands cells-are are outs-are names-are first same rest =
    subst (PutsBehind old new) whole
    (puts-on old mid new (inner_station q numbers outs rows ∷ []) (cell_stations links n mid.leaves names) first rest)
  where
    n : ℕ
    n = length old.entries.items

    group : Group
    group = group_of g

    count : ℕ
    count = cell_count g.grid

    all : List ℕ
    all = range_with_len (n + 1) count

    out-row : (port : Word) → begins_at links.outward.items (nodes_to links.arrivals (is_own port)) ≡ refs_into (group_ref all []) g.links.items (is_own port)
    out-row port = are.outward port ∙ ap (λ ns. refs_into (group_ref ns []) g.links.items (is_own port)) cells-are

    in-row : (cell : ℕ) (port : Word) → begins_at links.inward.items (nodes_to links.arrivals (is_cell port cell)) ≡ refs_into (group_ref all g.ins.items) g.links.items (is_cell port cell)
    in-row cell port = are.inward (is_cell port cell) (owned.Cell port cell) (test-cell port cell) ∙ ap (λ ns. refs_into (group_ref ns g.ins.items) g.links.items (is_cell port cell)) cells-are

    outs-same : outs ≡ map (λ port. refs_into (group_ref all []) g.links.items (is_own port)) g.outs.items
    outs-same = outs-are ∙ (λ i. map (λ port. out-row port i) g.outs.items)

    leaf : ℕ → List Word → Station
    leaf k ports = leaf_station n (old.leaves + k) (rows_to links.inward.items links.arrivals (λ port. is_cell port k) ports)

    one : (k : ℕ) → leaf k (cell_ports group k) ≡ station_of ps (cell_processor group n old.leaves k)
    one k =
        (λ i. leaf_station n (old.leaves + k) (map (λ port. in-row k port i) (cell_ports group k)))
        ∙ ap (λ o. leaf_station n (old.leaves + k) (elim o [ None ↦ [] | Some p ↦ rows_into ps p (cell_processor group n old.leaves k).node ])) (sym stands.0)

    cells-same : cell_stations links n mid.leaves names ≡ map (station_of ps) (map (cell_processor group n old.leaves) (range_with_len 0 count))
    cells-same =
        ap (λ f. cell_stations links n f names) same
        ∙ ap (cell_stations links n old.leaves) names-are
        ∙ cells-row leaf (cell_ports group) 0 count
        ∙ (λ i. map (λ k. one k i) (range_with_len 0 count))
        ∙ sym (map-twice (cell_processor group n old.leaves) (station_of ps) (range_with_len 0 count))

    whole : inner_station q numbers outs rows ∷ cell_stations links n mid.leaves names ≡ part_stations ps (cells group) n q old.leaves rows
    whole = λ i. inner_station q (cells-are i) (outs-same i) rows ∷ cells-same i

-- ---- one cell more

enumerate-behind : {X : Type 0} (n : ℕ) (xs : List X) (x : X) (m : ℕ) → m ≡ n + length xs
    → enumerate_from n (xs ++ x ∷ []) ≡ enumerate_from n xs ++ (m, x) ∷ []
enumerate-behind {X} n [] x m e =
    ap (λ (k : ℕ). let p : ℕ × X = (k, x) in p ∷ []) (let h : n ≡ m = omega (arith, e) in h)
enumerate-behind {X} n (y ∷ xs) x m e =
    ap (λ (ps : List (ℕ × X)). (n, y) ∷ ps) (enumerate-behind (n + 1) xs x m (omega (arith, e)))

pub puts-cell : {X : Type 0} (to : X → List Word) (a b d : Growing) (links : Links) (q : ℕ)
    (xs : List X) (i cell : ℕ) (x : X) (rows : List (List Ref)) → i < length xs
    → x ≡ get_or xs i x → cell ≡ i → b.leaves ≡ a.leaves + i
    → PutsBehind a b (cell_stations links q a.leaves (map to (take i xs)))
    → (ports : List Word) → ports ≡ to x
    → rows ≡ rows_to links.inward.items links.arrivals (λ port. is_cell port cell) ports
    → PutsBehind b d (leaf_station q b.leaves rows ∷ [])
    → PutsBehind a d (cell_stations links q a.leaves (map to (take (i + 1) xs)))
puts-cell to a b d links q xs i cell x rows within is same leaves g ports named rows-are h =
    subst (PutsBehind a d) (sym whole)
    (puts-on a b d (cell_stations links q a.leaves (map to (take i xs))) (F i (to x) ∷ []) g one)
  where
    F : ℕ → List Word → Station
    F k names = leaf_station q (a.leaves + k) (rows_to links.inward.items links.arrivals (λ port. is_cell port k) names)

    long : i ≡ 0 + length (map to (take i xs))
    long = let h = length-map (take i xs) to ∙ length-take-le i xs (omega (arith, within)) in omega (arith, h)

    more : map to (take (i + 1) xs) ≡ map to (take i xs) ++ to x ∷ []
    more = ap (map to) (take_more xs i x within ∙ ap (λ y. take i xs ++ y ∷ []) (sym is)) ∙ map_push to (take i xs) x

    whole : cell_stations links q a.leaves (map to (take (i + 1) xs)) ≡ cell_stations links q a.leaves (map to (take i xs)) ++ F i (to x) ∷ []
    whole =
        ap (cell_stations links q a.leaves) more
        ∙ ap (map (λ (p : ℕ × List Word). F p.0 p.1)) (enumerate-behind 0 (map to (take i xs)) (to x) i long)
        ∙ map_push (λ (p : ℕ × List Word). F p.0 p.1) (enumerate_from 0 (map to (take i xs))) (i, to x)

    one : PutsBehind b d (F i (to x) ∷ [])
    one =
        subst (λ s. PutsBehind b d (s ∷ []))
        (ap (λ r. leaf_station q b.leaves r) (rows-are ∙ ap (λ ns. rows_to links.inward.items links.arrivals (λ port. is_cell port cell) ns) named)
        ∙ ap (λ n. leaf_station q n (rows_to links.inward.items links.arrivals (λ port. is_cell port cell) (to x))) leaves
        ∙ ap (λ k. leaf_station q (a.leaves + i) (rows_to links.inward.items links.arrivals (λ port. is_cell port k) (to x))) same)
        h

-- ---- all of a model

past-end : (ps : List Processor) (n : ℕ) → length ps ≡ n → slice_get ps n ≡ None
past-end [] zero e = refl
past-end [] (suc n) e = absurd (omega (arith, e))
past-end (p ∷ ps) zero e = absurd (omega (arith, e))
past-end (p ∷ ps) (suc n) e = past-end ps n (omega (arith, e))

all-there : (t : Tree)
    → part_stations (processors t) t 0 (size t) 0 [] ≡ stations t
all-there t =
    own-ins (processors t) t 0 (size t) 0 []
    (ap (λ o. elim o [ None ↦ [] | Some p ↦ rows_into (processors t) p (node_of t 0) ])
    (sym (past-end (processors t) (size t) (size-is t 0 (size t) 0))))

pub puts-all : (t : Tree) (old new : Growing) (root : ℕ) (rows : List (List Ref))
    → old.entries.items ≡ [] → old.leaves ≡ 0 → root ≡ size t → rows ≡ []
    → (ContainsFrom (processors t) (length old.entries.items)
    (processors_from t (length old.entries.items) root old.leaves)
    → PutsBehind old new
    (part_stations (processors t) t (length old.entries.items) root old.leaves rows))
    → map station_in new.entries.items ≡ stations t
puts-all t old new root rows none zero-leaves is-root no-rows takes =
    at-start (stands-itself (processors t)) ∙ all-there t
  where
    P : List Entry → ℕ → ℕ → List (List Ref) → Type 0
    P es r f rs =
        ContainsFrom (processors t) (length es) (processors_from t (length es) r f)
        → map station_in new.entries.items
        ≡ map station_in es ++ part_stations (processors t) t (length es) r f rs

    at-start : P [] (size t) 0 []
    at-start =
        subst (λ es. P es (size t) 0 []) none
        (subst (λ f. P old.entries.items (size t) f []) zero-leaves
        (subst (λ r. P old.entries.items r old.leaves []) is-root
        (subst (P old.entries.items root old.leaves) no-rows takes)))
