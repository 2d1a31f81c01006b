-- A transition message to a component is served.
use Rattle.std.proofs.Common.{◌≡◌, ◌⊎◌, inl, inr, ℕ, ℤ, zero, suc, ◌+◌, ◌<◌, ◌≤◌, Bool, false, Option, Some, None, List, [], ◌∷◌, ◌++◌, map, length, refl, sym, ◌∙◌, ap, subst, arith}
use Rattle.std.specs.Prelude.{slice_get, IfSome}
use Rattle.std.specs.List.{flat_map, enumerate_from, range_with_len, list_any}
use Rattle.std.specs.Option.{option_map}
use Rattle.std.proofs.lemmas.Bool.{cases_eq}
use Rattle.std.proofs.lemmas.Option.{slice_get-map}
use Rattle.cell_grid.specs.Space.{cell_count, neighbour}
use Rattle.atomic_face.specs.Classes.{Bag}
use Rattle.model_leaves.specs.declared.table.Model.{Model}
use Rattle.model_leaves.specs.declared.leaves.LeafAt.{LeafAt}
use Rattle.model_leaves.specs.declared.leaves.LeafAt.TheVariants as sits
use Rattle.model_tree.specs.Tree.{Tree, Group, Leaf, atomic_leaf, cell_leaf, groups, leaves}
use Rattle.model_leaves.specs.Leaves.{StandsAt, IsCellIn, IsLeafOf, no_settings}
use Rattle.model_leaves.proofs.Read.{rows-length}
use Rattle.run_model.specs.Cycle.{stayed}
use Rattle.run_model.specs.Run.{RunState}
use Rattle.sparse_cycle.specs.Sparse.{leaf_of}
use Rattle.run_leaves.specs.Seated.{Seated, settings_at, tree_at}
use Rattle.tree_tables.specs.declared.entry.Entry.{Entry}
use Rattle.tree_tables.specs.Stations.{leaf_of_node as leaf_number, row_of, rows_into, station_of, stations, station_in}
use Rattle.served_tree.specs.Processors.{Node, coupled_node, group_node, leaf_node, Processor, processors, at_processor}
use Rattle.served_tree.specs.Service.{Message, transition, Kept, instant_of, bag_at_inputs, handed_cell, is_cell_woken, cell_gave_output, became_of, transition_from, keeps, causes}
use Rattle.served_tree.specs.Rows.{read_rows, RowsBring}
use Rattle.served_tree.specs.Parts.{parts, part_at}
use Rattle.served_tree.specs.Course.{Counts, IsChild, times, Stands}
use Rattle.served_tree.specs.Orders.{IsServable}
use Rattle.served_tree.proofs.Times.{one_if-same}
use Rattle.served_tree.proofs.Works.{InnerWorks, KindWorks}
use Rattle.served_tree.proofs.Counting.{found-in, found-within, parent-is}
use Rattle.served_tree.proofs.Lists.{length-range}
use Rattle.served_tree.proofs.Placing.{cell_processor}
use Rattle.served_tree.proofs.Finishing.{leaves-many}
use Rattle.served_tree.proofs.Whole.{works}
use Rattle.tree_mail.specs.declared.kept.Became.TheVariants as leaf
use Rattle.tree_mail.specs.declared.tables.GroupSpace.{GroupSpace}
use Rattle.tree_messages.specs.Due.{due_at}
use Rattle.tree_mail.specs.Notes.{Note, heard, all_heard, move_noted, AreLeft}
use Rattle.tree_mail.specs.Mail.{messages_in, kept_in, all_kept}
use Rattle.tree_messages.specs.Changes.{Changing, PassesToChildren}
use Rattle.tree_mail.specs.Puts.{ins_read, woken_in, handed_to, first_leaf, group_of_seat, IsGroupOf, space_at, passed_on}
use Rattle.tree_mail.specs.Puts.{CanPass}
use Rattle.tree_mail.specs.Tabled.{IsSpaceOf, AreSpacesOf}
use Rattle.tree_serve.specs.InCycle.{LeavesLie}
use Rattle.tree_serve.specs.Holds.{AreTold, AreKept}
use Rattle.tree_serve.proofs.KindAt.{NoCell, KindOf, kind-at}
use Rattle.tree_serve.proofs.Leaves.{leaf-is}
use Rattle.tree_serve.proofs.Entries.{processor-at, entry-at, children-of, leaf-of, ins-of}
use Rattle.tree_serve.proofs.Keeping.{noted-same, noted-other, noted-length, before, kept-changed, Alike, heard-alike, alike-both, reads-same, woken-same}
use Rattle.tree_serve.proofs.Left.{left-after-move}
use Rattle.tree_serve.proofs.Within.{as-leaf, family, lie-on}
use Rattle.tree_serve.proofs.Went.{no-number, at-is, Went}

-- ---- lists

map-flat : (f : ℕ → Message) (g : ℕ → List Message) (xs : List ℕ)
    → ((x : ℕ) → 1 ≤ times x xs → g x ≡ f x ∷ []) → map f xs ≡ flat_map g xs
map-flat f g [] each = refl
map-flat f g (x ∷ xs) each =
    let rest = map-flat f g xs (λ y le. each y (omega (arith, le))) in
    (λ i. f x ∷ rest i) ∙ (λ i. sym (each x (omega (arith, one_if-same x x refl))) i ++ flat_map g xs)

-- numbered children, of which the j-th is the j-th number
map-numbered : (f g : ℕ × ℕ → Message) (m a k : ℕ)
    → ((j : ℕ) → j < k → f (m + j, a + j) ≡ g (m + j, a + j))
    → map f (enumerate_from m (range_with_len a k)) ≡ map g (enumerate_from m (range_with_len a k))
map-numbered f g m a zero each = refl
map-numbered f g m a (suc k) each =
    let first : f (m, a) ≡ g (m, a) = subst (λ (x : ℕ). f (m, x) ≡ g (m, x)) (let e : a + 0 ≡ a = omega arith in e) (subst (λ (x : ℕ). f (x, a + 0) ≡ g (x, a + 0)) (let e : m + 0 ≡ m = omega arith in e) (each 0 (omega arith))) in
    let rest = map-numbered f g (m + 1) (a + 1) k (λ j lt.
    subst (λ (x : ℕ). f (x, (a + 1) + j) ≡ g (x, (a + 1) + j)) (let e : m + suc j ≡ (m + 1) + j = omega arith in e)
    (subst (λ (x : ℕ). f (m + suc j, x) ≡ g (m + suc j, x)) (let e : a + suc j ≡ (a + 1) + j = omega arith in e) (each (suc j) (omega (arith, lt))))) in
    λ i. first i ∷ rest i

-- ---- the space of a component

-- none of a coupled component; of a group its own
abbrev pub HasSpace : Node → Option GroupSpace → Type 0
HasSpace (coupled_node name ins outs links) o = o ≡ None
HasSpace (group_node g) o =
    (x : GroupSpace) × (o ≡ Some x) × (x.grid ≡ g.space) × (x.offsets.items ≡ g.offsets)
HasSpace (leaf_node number leaf) o = Unit {0}

no-cell-there : (t : Tree) (settings : ℕ → List ℤ) (a : LeafAt) (node : Node) (l : ℕ) (x : Leaf)
    → node ≡ leaf_node l x → NoCell node → StandsAt t settings a x → group_of_seat a ≡ None
no-cell-there t settings (sits.Atomic box) node l x is no-cell stands = refl
no-cell-there t settings (sits.Cell group cell) node l (atomic_leaf name class words) is no-cell stands = absurd stands
no-cell-there t settings (sits.Cell group cell) node l (cell_leaf g first k) is no-cell stands = absurd (subst NoCell is no-cell)

in-group : (gs : List Group) (group cell : ℕ) (g : Group) (first k : ℕ) (o : Option Group)
    → slice_get gs group ≡ o → IsCellIn o cell (cell_leaf g first k) → slice_get gs group ≡ Some g
in-group gs group cell g first k None is h = absurd h
in-group gs group cell g first k (Some x) is h = is ∙ ap Some (sym h.0)

group-there : (t : Tree) (settings : ℕ → List ℤ) (a : LeafAt) (g : Group) (first k : ℕ)
    → StandsAt t settings a (cell_leaf g first k)
    → (n : ℕ) × (group_of_seat a ≡ Some n) × (slice_get (groups t) n ≡ Some g)
group-there t settings (sits.Atomic box) g first k stands = absurd stands
group-there t settings (sits.Cell group cell) g first k stands =
    (group, refl, in-group (groups t) group cell g first k (slice_get (groups t) group) refl stands)

space-of : (gs : List Group) (spaces : List GroupSpace) → AreSpacesOf gs spaces → (n : ℕ) (g : Group)
    → slice_get gs n ≡ Some g
    → (x : GroupSpace) × (slice_get spaces n ≡ Some x) × (x.grid ≡ g.space) × (x.offsets.items ≡ g.offsets)
space-of gs spaces are n g is =
    let within = found-within gs n g is in
    let long = are.long in
    let x = found-in spaces n (omega (arith, within, long)) in
    let h = subst (λ o. IsSpaceOf o x.0) is (are.each n x.0 x.1) in
    (x.0, x.1, h.0, h.1)

range-some : (a k x : ℕ) → 1 ≤ times x (range_with_len a k) → (j : ℕ) × (k ≡ suc j)
range-some a zero x le = absurd (omega (arith, le))
range-some a (suc j) x le = (j, refl)

first-is : (entries : List Entry) (n : ℕ) (e : Entry) → slice_get entries n ≡ Some e
    → ◌≡◌ {A = Option ℕ} (elim (slice_get entries n) [ None ↦ None | Some x ↦ x.leaf ]) e.leaf
first-is entries n e is = ap (λ (o : Option Entry). elim o [ None ↦ None | Some x ↦ x.leaf ]) is

no-space : (spaces : List GroupSpace) (group : Option ℕ) → group ≡ None → space_at spaces group ≡ None
no-space spaces group none = ap (space_at spaces) none

module _ (m : Model) (words : List (List ℤ)) (t : ℕ) (s : RunState)
    (servable : IsServable (tree_at m words) s.leaf_states) (entries : List Entry)
    (are : map station_in entries ≡ stations (tree_at m words)) (spaces : List GroupSpace)
    (spaces_are : AreSpacesOf (groups (tree_at m words)) spaces) where
  abbrev tree : Tree
  tree = tree_at m words

  abbrev ps : List Processor
  ps = processors (tree_at m words)

  -- ---- the space

  by-leaf : (x : ℕ) (q : Processor) → slice_get ps x ≡ Some q → NoCell q.node → (o : Option ℕ)
      → leaf_number q.node ≡ o → (group : Option ℕ) → IsGroupOf m o group → group ≡ None
  by-leaf x q q-is no-cell None is group of = of
  by-leaf x q q-is no-cell (Some l) is group of =
      let me = as-leaf (tree_at m words) t s servable x l q q-is is in
      of.2 ∙ no-cell-there (tree_at m words) (settings_at words) of.0 q.node l me.leaf me.node no-cell (of.1 (settings_at words) me.leaf me.there)

  space-by : (n : ℕ) (node : Node) (children : List ℕ) → KindOf ps n children node → (x : ℕ)
      → 1 ≤ times x children → (group : Option ℕ) → IsGroupOf m (first_leaf entries children) group
      → HasSpace node (space_at spaces group)
  space-by n (coupled_node name ins outs links) [] kind x some group of = absurd (omega (arith, some))
  space-by n (coupled_node name ins outs links) (c ∷ cs) kind x some group of =
      let child = kind c (omega (arith, one_if-same c c refl)) in
      let ce = entry-at (tree_at m words) entries are c child.0 child.1 in
      let first : first_leaf entries (c ∷ cs) ≡ leaf_number child.0.node = first-is entries c ce.0 ce.1 ∙ leaf-of (tree_at m words) entries are ce.0 child.0 ce.2 in
      no-space spaces group (by-leaf c child.0 child.1 child.2 (leaf_number child.0.node) refl group (subst (λ o. IsGroupOf m o group) first of))
  space-by n (group_node g) children kind x some group of =
      let f = kind.0 in
      let count = range-some (n + 1) (cell_count g.space) x (subst (λ ns. 1 ≤ times x ns) kind.1 some) in
      let cell : slice_get ps (n + 1) ≡ Some (cell_processor g n f 0) =
      ap (slice_get ps) (let z : n + 1 ≡ (n + 1) + 0 = omega arith in z) ∙ kind.2 0 (let z = count.1 in omega (arith, z)) in
      let ce = entry-at (tree_at m words) entries are (n + 1) (cell_processor g n f 0) cell in
      let first : first_leaf entries children ≡ Some (f + 0) =
      ap (first_leaf entries) (kind.1 ∙ ap (range_with_len (n + 1)) count.1)
      ∙ first-is entries (n + 1) ce.0 ce.1 ∙ leaf-of (tree_at m words) entries are ce.0 (cell_processor g n f 0) ce.2 in
      let sits : IsGroupOf m (Some (f + 0)) group = subst (λ o. IsGroupOf m o group) first of in
      let there = (leaf-is (tree_at m words) (n + 1) (cell_processor g n f 0) (f + 0) (cell_leaf g f 0) cell refl).0 in
      let here = group-there (tree_at m words) (settings_at words) sits.0 g f 0 (sits.1 (settings_at words) (cell_leaf g f 0) there) in
      let space = space-of (groups (tree_at m words)) spaces spaces_are here.0 g here.2 in
      (space.0, ap (space_at spaces) (sits.2 ∙ here.1) ∙ space.1, space.2, space.3)
  space-by n (leaf_node number leaf) children kind x some group of = tt

  -- ---- a component can pass on

  leaf-there : (children : List ℕ) → IfSome (first_leaf entries children) (IsLeafOf m)
  leaf-there [] = tt
  leaf-there (c ∷ cs) = by (slice_get entries c) refl
    where
      of-leaf : (o : Option ℕ) → ((l : ℕ) → o ≡ Some l → IsLeafOf m l) → IfSome o (IsLeafOf m)
      of-leaf None each = tt
      of-leaf (Some l) each = each l refl

      by : (o : Option Entry) → slice_get entries c ≡ o
          → IfSome (elim o [ None ↦ None | Some x ↦ x.leaf ]) (IsLeafOf m)
      by None is = tt
      by (Some ce) is = of-leaf ce.leaf (λ l l-is.
          let q = processor-at (tree_at m words) entries are c ce is in
          let number = sym (leaf-of (tree_at m words) entries are ce q.0 (sym q.2)) ∙ l-is in
          let me = as-leaf (tree_at m words) t s servable c l q.0 q.1 number in
          let a = found-within (leaves (tree_at m words)) l me.leaf me.there in
          let b = leaves-many (tree_at m words) 0 in
          let d = rows-length m (settings_at words) in
          let f = rows-length m no_settings in
          omega (arith, a, b, d, f))

  room-by : (n : ℕ) (node : Node) (children : List ℕ) (o : Option GroupSpace) → KindOf ps n children node
      → leaf_number node ≡ None → HasSpace node o → IfSome o (λ x. length children ≤ cell_count x.grid)
  room-by n (coupled_node name ins outs links) children o kind inner space =
      subst (λ (q : Option GroupSpace). IfSome q (λ x. length children ≤ cell_count x.grid)) (sym space) tt
  room-by n (group_node g) children o kind inner space =
      let long : length children ≡ cell_count g.space = ap length kind.1 ∙ length-range (n + 1) (cell_count g.space) in
      let same : cell_count space.0.grid ≡ cell_count g.space = ap cell_count space.2 in
      subst (λ (q : Option GroupSpace). IfSome q (λ x. length children ≤ cell_count x.grid)) (sym space.1) (omega (arith, long, same))
  room-by n (leaf_node number leaf) children o kind inner space = absurd cc

  module _ (n : ℕ) (p : Processor) (p-is : slice_get ps n ≡ Some p) (e : Entry)
      (same : station_in e ≡ station_of ps p) (none : e.leaf ≡ None) where
    inner-node : leaf_number p.node ≡ None
    inner-node = sym (leaf-of (tree_at m words) entries are e p same) ∙ none

    inner : InnerWorks (instant_of (tree_at m words) t s) (part_at (parts (tree_at m words) t s)) n p
    inner =
        subst (KindWorks (instant_of (tree_at m words) t s) (part_at (parts (tree_at m words) t s)) n p) (no-number p.node inner-node)
        ((works (tree_at m words) t s servable).each n p p-is)

    kind : KindOf ps n p.children p.node
    kind = kind-at (tree_at m words) n p p-is

    children-are : e.children.items ≡ p.children
    children-are = children-of (tree_at m words) entries are e p same

    space-is : (group : Option ℕ) → IsGroupOf m (first_leaf entries e.children.items) group
        → HasSpace p.node (space_at spaces group)
    space-is group of =
        space-by n p.node p.children kind inner.some.0 inner.some.1 group
        (subst (λ ns. IsGroupOf m (first_leaf entries ns) group) children-are of)

    pub can-pass : CanPass m entries spaces e.children.items
    can-pass =
        record {
          leaf = leaf-there e.children.items;
          cells = λ group of.
              subst (λ ns. IfSome (space_at spaces group) (λ x. length ns ≤ cell_count x.grid)) (sym children-are)
              (room-by n p.node p.children (space_at spaces group) kind inner-node (space-is group of));
        }

  -- ---- what is put

  module _ (brings : RowsBring) (notes : List Note) (now : List Kept) (alike : Alike (all_heard notes) now)
      (n : ℕ) (bag : Bag) where
    -- what the rows of a child read
    child-reads : (p : Processor) → slice_get ps n ≡ Some p → (x : ℕ) (q : Processor)
        → slice_get ps x ≡ Some q → q.parent ≡ n
        → ins_read entries notes bag x ≡ read_rows bag now (rows_into ps p q.node)
    child-reads p p-is x q q-is parent =
        let ce = entry-at (tree_at m words) entries are x q q-is in
        ap (λ (o : Option Entry). read_rows bag (all_heard notes) (elim o [ None ↦ [] | Some y ↦ map row_of y.ins.items ])) ce.1
        ∙ ap (read_rows bag (all_heard notes)) (ins-of (tree_at m words) entries are ce.0 q ce.2
        ∙ ap (λ k. at_processor ps k [] (λ r. rows_into ps r q.node)) parent
        ∙ at-is ps n [] (λ r. rows_into ps r q.node) p p-is)
        ∙ reads-same (all_heard notes) now alike bag (rows_into ps p q.node)

    puts-by : (node : Node) (parent : ℕ) (children : List ℕ)
        → slice_get ps n ≡ Some (record { node = node; parent = parent; children = children })
        → KindOf ps n children node → leaf_number node ≡ None
        → ((x : ℕ) → 1 ≤ times x children → IsChild ps n x) → (o : Option GroupSpace) → HasSpace node o
        → passed_on entries notes children bag o
        ≡ transition_from (instant_of (tree_at m words) t s) now n bag (record { node = node; parent = parent; children = children })
    puts-by (coupled_node name ins outs links) parent children p-is kind inner child o space =
        let p : Processor = record { node = coupled_node name ins outs links; parent = parent; children = children } in
        ap (passed_on entries notes children bag) space
        ∙ map-flat (λ x. transition x (ins_read entries notes bag x) false)
        (λ x. at_processor ps x [] (λ q. transition x (bag_at_inputs (instant_of (tree_at m words) t s) now children ins links bag q.node) false ∷ []))
        children
        (λ x le.
        let q = kind x le in
        let of-n : q.0.parent ≡ n = sym (parent-is ps x q.0 q.1) ∙ (child x le).2 in
        let reads = child-reads p p-is x q.0 q.1 of-n ∙ brings.inputs (instant_of (tree_at m words) t s) now children ins links bag q.0.node in
        at-is ps x [] (λ r. transition x (bag_at_inputs (instant_of (tree_at m words) t s) now children ins links bag r.node) false ∷ []) q.0 q.1
        ∙ ap (λ b. transition x b false ∷ []) (sym reads))
    puts-by (group_node g) parent children p-is kind inner child o space =
        let p : Processor = record { node = group_node g; parent = parent; children = children } in
        let f = kind.0 in
        let x = space.0 in
        ap (passed_on entries notes children bag) space.1
        ∙ subst (λ ns. map (handed_to entries notes children x bag) (enumerate_from 0 ns) ≡ map (λ (c : ℕ × ℕ). transition c.1 (handed_cell now children g bag c.0) (is_cell_woken now children g c.0)) (enumerate_from 0 ns)) (sym kind.1)
        (map-numbered (handed_to entries notes children x bag) (λ (c : ℕ × ℕ). transition c.1 (handed_cell now children g bag c.0) (is_cell_woken now children g c.0)) 0 (n + 1) (cell_count g.space)
        (λ j lt.
        let number : j ≡ 0 + j = omega arith in
        let cell = kind.2 j lt in
        let reads : ins_read entries notes bag ((n + 1) + j) ≡ handed_cell now children g bag j =
        child-reads p p-is ((n + 1) + j) (cell_processor g n f j) cell refl ∙ brings.cells now children g bag j in
        let woken : woken_in notes children x.grid x.offsets.items j ≡ is_cell_woken now children g j =
        woken-same (all_heard notes) now alike children x.grid x.offsets.items j
        ∙ ap (λ space. list_any (λ o. cell_gave_output now children (neighbour space j o)) x.offsets.items) space.2
        ∙ ap (λ os. list_any (λ o. cell_gave_output now children (neighbour g.space j o)) os) space.3 in
        subst (λ i. transition ((n + 1) + j) (ins_read entries notes bag ((n + 1) + j)) (woken_in notes children x.grid x.offsets.items i) ≡ transition ((n + 1) + j) (handed_cell now children g bag i) (is_cell_woken now children g i)) number
        (λ i. transition ((n + 1) + j) (reads i) (woken i))))
    puts-by (leaf_node number leaf) parent children p-is kind inner child o space = absurd cc

  becomes-none : (n : ℕ) (bag : Bag) (woken : Bool) (node : Node) (parent : ℕ) (children : List ℕ)
      → slice_get ps n ≡ Some (record { node = node; parent = parent; children = children })
      → leaf_number node ≡ None → became_of (instant_of (tree_at m words) t s) n bag woken ≡ stayed
  becomes-none n bag woken (coupled_node name ins outs links) parent children p-is none =
      at-is ps n stayed _ (record { node = coupled_node name ins outs links; parent = parent; children = children }) p-is
  becomes-none n bag woken (group_node g) parent children p-is none =
      at-is ps n stayed _ (record { node = group_node g; parent = parent; children = children }) p-is
  becomes-none n bag woken (leaf_node number leaf) parent children p-is none = absurd cc

  -- ---- all of it

  module _ (brings : RowsBring) (c : Counts) (ws : List Message) (old : Changing)
      (stands : Stands ps (part_at (parts (tree_at m words) t s)) c (record { waiting = ws; kept = all_kept old.leaves.states entries old.notes }))
      (lie : LeavesLie (tree_at m words) t s c old.leaves.states old.due)
      (held : AreKept old.leaves.states entries old.notes)
      (n place : ℕ) (bag : Bag) (woken : Bool) (is : slice_get ws place ≡ Some (transition n bag woken))
      (e : Entry) (e-is : slice_get entries n ≡ Some e) (none : e.leaf ≡ None) where
    abbrev kept : List Kept
    kept = all_kept old.leaves.states entries old.notes

    abbrev keeps-now : List Kept
    keeps-now = keeps (instant_of (tree_at m words) t s) (transition n bag woken) kept

    abbrev moved-notes : List Note
    moved-notes = move_noted n bag leaf.Stayed old.notes

    p : (q : Processor) × (slice_get ps n ≡ Some q) × (station_of ps q ≡ station_in e)
    p = processor-at (tree_at m words) entries are n e e-is

    k : (j : Note) × (slice_get old.notes n ≡ Some j)
    k = found-in old.notes n (let a = held.long in let w = found-within entries n e e-is in omega (arith, a, w))

    moved-long : length moved-notes ≡ length entries
    moved-long = noted-length old.notes n (λ x. record x { took = bag; became = leaf.Stayed }) ∙ held.long

    becomes : became_of (instant_of (tree_at m words) t s) n bag woken ≡ stayed
    becomes = becomes-none n bag woken p.0.node p.0.parent p.0.children p.1 (inner-node n p.0 p.1 e (sym p.2) none)

    kept-moved : all_kept old.leaves.states entries moved-notes ≡ keeps-now
    kept-moved =
        kept-changed old.leaves.states old.leaves.states entries old.notes moved-notes n e k.0 (record k.0 { took = bag; became = leaf.Stayed })
        (λ x. record x { took = bag; became = became_of (instant_of (tree_at m words) t s) n bag woken })
        held.long moved-long e-is k.1 (noted-same old.notes n k.0 (λ x. record x { took = bag; became = leaf.Stayed }) k.1)
        (λ i. record { gave = k.0.gave; answered = k.0.answered; took = bag; became = sym becomes i })
        (λ x y z z' ne y-is z-is z'-is.
        let there : slice_get moved-notes x ≡ Some z = noted-other old.notes n x k.0 (λ w. record w { took = bag; became = leaf.Stayed }) k.1 ne ∙ z-is in
        let same : ◌≡◌ {A = Note} z' z = cc (there, z'-is) in
        ap (kept_in old.leaves.states y) same)

    -- what is heard doesn't change
    heard-same : Alike (all_heard old.notes) keeps-now
    heard-same =
        let a = heard-alike old.leaves.states entries moved-notes moved-long in
        alike-both (all_heard old.notes) (all_heard moved-notes) keeps-now
        (record {
          gave = λ x. by (λ y. y.gave) (λ y. refl) x;
          answered = λ x. by (λ y. y.answered) (λ y. refl) x;
        })
        (subst (Alike (all_heard moved-notes)) kept-moved a)
      where
        change : Note → Note
        change y = record y { took = bag; became = leaf.Stayed }

        part-same : {A : Type 0} (part : Kept → A) → ((y : Note) → part (heard (change y)) ≡ part (heard y)) → (x : ℕ) (o : Option Note)
            → slice_get old.notes x ≡ o → (x ≡ n) ⊎ (x ≡ n → ⊥)
            → option_map part (option_map heard (slice_get old.notes x)) ≡ option_map part (option_map heard (slice_get moved-notes x))
        part-same part same x o o-is (inl here) =
            let at-n : slice_get old.notes x ≡ Some k.0 = ap (slice_get old.notes) here ∙ k.1 in
            let then' : slice_get moved-notes x ≡ Some (change k.0) = ap (slice_get moved-notes) here ∙ noted-same old.notes n k.0 change k.1 in
            ap (λ (q : Option Note). option_map part (option_map heard q)) at-n
            ∙ ap Some (sym (same k.0))
            ∙ sym (ap (λ (q : Option Note). option_map part (option_map heard q)) then')
        part-same part same x o o-is (inr ne) =
            ap (λ (q : Option Note). option_map part (option_map heard q)) (sym (noted-other old.notes n x k.0 change k.1 ne))

        by : {A : Type 0} (part : Kept → A) → ((y : Note) → part (heard (change y)) ≡ part (heard y)) → (x : ℕ)
            → option_map part (slice_get (all_heard old.notes) x) ≡ option_map part (slice_get (all_heard moved-notes) x)
        by part same x =
            ap (option_map part) (slice_get-map heard old.notes x)
            ∙ part-same part same x (slice_get old.notes x) refl (cases_eq x n)
            ∙ sym (ap (option_map part) (slice_get-map heard moved-notes x))

    caused : causes (instant_of (tree_at m words) t s) keeps-now (transition n bag woken)
        ≡ transition_from (instant_of (tree_at m words) t s) keeps-now n bag p.0
    caused = at-is ps n [] (transition_from (instant_of (tree_at m words) t s) keeps-now n bag) p.0 p.1

    puts-are : (group : Option ℕ) → IsGroupOf m (first_leaf entries e.children.items) group
        → passed_on entries old.notes e.children.items bag (space_at spaces group)
        ≡ causes (instant_of (tree_at m words) t s) keeps-now (transition n bag woken)
    puts-are group of =
        ap (λ ns. passed_on entries old.notes ns bag (space_at spaces group)) (children-are n p.0 p.1 e (sym p.2) none)
        ∙ puts-by brings old.notes keeps-now heard-same n bag p.0.node p.0.parent p.0.children p.1 (kind n p.0 p.1 e (sym p.2) none)
        (inner-node n p.0 p.1 e (sym p.2) none) ((works (tree_at m words) t s servable).placed n p.0 p.1).only
        (space_at spaces group) (space-is n p.0 p.1 e (sym p.2) none group of)
        ∙ sym caused

    moved-told : AreTold old.leaves.states entries moved-notes
    moved-told x l y j value y-is j-is l-is moved-to =
        let b = before old.notes n x (λ z. record z { took = bag; became = leaf.Stayed }) j j-is in
        elim b.is [
          | inl a ↦ held.told x l y b.note value y-is b.there l-is (ap (λ (z : Note). z.became) (sym a) ∙ moved-to)
          | inr a ↦
              let h : leaf.Moved value ≡ leaf.Stayed = sym moved-to ∙ ap (λ (z : Note). z.became) a.1 in
              absurd cc
        ]

    pub passed-went : (new : Changing) → PassesToChildren m entries spaces n bag e old new
        → Went (tree_at m words) t s servable entries are (transition n bag woken) c old new
    passed-went new passes =
        record {
          puts = passes.puts ∙ ap (λ ms. messages_in old.waiting ++ ms) (puts-are passes.group passes.is_group);
          kept =
              ap (all_kept new.leaves.states entries) passes.notes
              ∙ ap (λ (x : Seated). all_kept x.states entries moved-notes) passes.leaves
              ∙ kept-moved;
          leaves = lie-on (tree_at m words) t s servable c n old.leaves.states new.leaves.states old.due new.due lie
              (λ x l q ne q-is l-is. (ap (λ (y : Seated). leaf_of y.states l) passes.leaves, ap (λ d. due_at d l) passes.due))
              (λ l q q-is l-is.
              let q-same : ◌≡◌ {A = Processor} q p.0 = cc (q-is, p.1) in
              let h : ◌≡◌ {A = Option ℕ} None (Some l) = sym (inner-node n p.0 p.1 e (sym p.2) none) ∙ ap (λ (x : Processor). leaf_number x.node) (sym q-same) ∙ l-is in
              absurd cc);
          held = record {
            long = ap length passes.notes ∙ moved-long;
            left = subst (AreLeft entries) (sym passes.notes)
                (left-after-move entries (family (tree_at m words) t s servable entries are) old.notes held.long held.left n k.0 k.1 bag leaf.Stayed);
            told = subst (λ (x : Seated). AreTold x.states entries new.notes) (sym passes.leaves)
                (subst (AreTold old.leaves.states entries) (sym passes.notes) moved-told);
          };
          states_long = ap (λ (x : Seated). length x.states) passes.leaves;
          due_long = ap length passes.due;
        }
