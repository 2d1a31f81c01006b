-- Each processor of a tree does its part.
use Rattle.std.proofs.Common.{◌≡◌, ℕ, zero, suc, ◌+◌, ◌<◌, ◌≤◌, Bool, true, false, ◌||◌, Option, Some, None, List, [], ◌∷◌, ◌++◌, map, length, refl, sym, ◌∙◌, ap, subst, arith, length-append}
use Rattle.std.specs.Prelude.{slice_get, unwrap_or, if◌then◌else◌}
use Rattle.std.specs.List.{AllByRecursion, range_with_len, enumerate_from, flat_map, list_any}
use Rattle.std.specs.Option.{option_map}
use Rattle.std.specs.Str.{bytes_eq}
use Rattle.std.proofs.lemmas.List.{length-map}
use Rattle.std.proofs.lemmas.Option.{slice_get-map}
use Rattle.quantity.specs.declared.value.Value.{Value}
use Rattle.quantity.specs.declared.place.Offset.{Offset}
use Rattle.quantity.specs.Bytes.{is_among}
use Rattle.cell_grid.specs.Space.{cell_count, neighbour}
use Rattle.cell_grid.proofs.Opposites.{neighbour-inside}
use Rattle.atomic_face.specs.Classes.{Bag}
use Rattle.model_tree.specs.declared.link.End.{End}
use Rattle.model_tree.specs.declared.link.End.TheVariants.{Own, Child, Cell}
use Rattle.model_tree.specs.declared.link.Link.{Link}
use Rattle.model_tree.specs.Tree.{Word, Group, Tree, Trees, coupled, cells, atomic, nil, cons, Leaf, atomic_leaf, cell_leaf, name_of, leaf_count, leaf_counts}
use Rattle.model_tree.specs.Pull.{class_ports, cell_ports, is_own, is_child, is_cell, at_source, what_links_bring, nothing, given_out, given_by}
use Rattle.quantity.specs.Times.{earlier}
use Rattle.run_model.specs.Cycle as run
use Rattle.run_model.specs.Cycle.{LeafState, collected_of, output_bags, given_by_leaf, bag_of, has_values, neighbour_leaf, Moved, stayed, moved, stopped}
use Rattle.served_tree.specs.Processors.{coupled_node, group_node, leaf_node, Processor, at_processor, node_name, node_ins, out_number, size, sizes, child_numbers, processors_from, all_processors_from}
use Rattle.served_tree.specs.Service.{StoppedLeaf, Message, output, transition, done, Kept, Instant, gave_of, at_number, at_found, at_own, child_gave, cell_gave, bag_at_inputs, handed_cell, cell_gave_output, is_cell_woken, leaf_became, leaf_done, child_answer, next_of_children, stop_of_children, transition_from}
use Rattle.served_tree.specs.Parts.{Part, leaf_answer, leaf_part, or_else, all_joined, cell_part, own_of, told, all_told, parts_from, all_parts_from, no_part, part_at}
use Rattle.served_tree.specs.Course.{times}
use Rattle.served_tree.specs.Linked.{BeginsWithin, AreWithin, HasChild, IsLinked, AreLinked}
use Rattle.served_tree.specs.Places.{ContainsFrom, node_of}
use Rattle.served_tree.proofs.Times.{one_if-same, range-times}
use Rattle.served_tree.proofs.Counting.{found-in}
use Rattle.served_tree.proofs.Works.{is_leaf, HaveGiven, HaveAnswered, LeafWorks, InnerWorks, KindWorks}
use Rattle.served_tree.proofs.Lists.{stands-split, stands-range, AllFrom, all-from-append, all-from-range, length-range, get-range}
use Rattle.served_tree.proofs.Ports.{at-own, at-none, brought-same, none-leads}
use Rattle.served_tree.proofs.Placing.{cell_processor, size-is, split-off, head-at}

-- ---- how many parts there are

mutual
  pub parts-many : (at : Instant) (gave : List Bag) (c : Tree) (f : ℕ) (own : Word → List Value)
      → length (parts_from at gave c f own) ≡ size c
  parts-many at gave (coupled name ins outs children links) f own = ap suc (all-parts-many at gave children f (own_of gave links children f own))
  parts-many at gave (cells g) f own = ap suc (length-map (range_with_len 0 (cell_count g.space)) (cell_part at gave g f own) ∙ length-range 0 (cell_count g.space))
  parts-many at gave (atomic name class settings) f own = refl

  pub all-parts-many : (at : Instant) (gave : List Bag) (ts : Trees) (f : ℕ) (own : Word → Word → List Value)
      → length (all_parts_from at gave ts f own) ≡ sizes ts
  all-parts-many at gave nil f own = refl
  all-parts-many at gave (cons c rest) f own =
      length-append (parts_from at gave c f (own (name_of c))) (all_parts_from at gave rest (f + leaf_count c) own)
      ∙ (λ i. parts-many at gave c f (own (name_of c)) i + all-parts-many at gave rest (f + leaf_count c) own i)

-- ---- small things

at-here : {A : Type 0} (ps : List Processor) (n : ℕ) (none : A) (go : Processor → A) (p : Processor)
    → slice_get ps n ≡ Some p → at_processor ps n none go ≡ go p
at-here ps n none go p is = ap (λ (o : Option Processor). elim o [ None ↦ none | Some q ↦ go q ]) is

name-is : (c : Tree) (f : ℕ) → node_name (node_of c f) ≡ name_of c
name-is (coupled name ins outs children links) f = refl
name-is (cells g) f = refl
name-is (atomic name class settings) f = refl

-- the input ports of a component, by number
abbrev pub ins_in : Tree → List Word
ins_in (coupled name ins outs children links) = ins
ins_in (cells g) = g.ins
ins_in (atomic name class settings) = class_ports class

ins-are : (c : Tree) (f : ℕ) → node_ins (node_of c f) ≡ ins_in c
ins-are (coupled name ins outs children links) f = refl
ins-are (cells g) f = refl
ins-are (atomic name class settings) f = refl

leaf-done-is : (n number : ℕ) (before : Option LeafState) (m : Moved)
    → leaf_done n number before m ≡ done n (leaf_answer number before m).0 (leaf_answer number before m).1
leaf-done-is n number before (stopped why) = refl
leaf-done-is n number before (moved s) = refl
leaf-done-is n number None stayed = refl
leaf-done-is n number (Some s) stayed = refl

or-is : (a b : StoppedLeaf) → (elim a [ None ↦ b | Some s ↦ Some s ]) ≡ or_else a b
or-is None b = refl
or-is (Some s) b = refl

map-both : {X Y : Type 0} (f g : X → Y) (xs : List X) → ((x : X) → f x ≡ g x) → map f xs ≡ map g xs
map-both f g xs each = λ i. map (λ x. each x i) xs

module _ (at : Instant) (gave : List Bag) (pt : List Part) (given : gave ≡ output_bags at.time at.states) where
  abbrev pub ps : List Processor
  ps = at.processors

  abbrev pub part : ℕ → Part
  part = part_at pt

  abbrev pub give : ℕ → List Value
  give = given_by_leaf gave

  pub part-is : (n : ℕ) (x : Part) → slice_get pt n ≡ Some x → part n ≡ x
  part-is n x is = ap (λ (o : Option Part). unwrap_or o no_part) is

  -- ---- the first part of a component

  -- what a component gives
  abbrev pub gives_of : Tree → ℕ → Bag
  gives_of (coupled name ins outs children links) f = bag_of (map (given_out (coupled name ins outs children links) f give) outs)
  gives_of (cells g) f = bag_of (map (given_out (cells g) f give) g.outs)
  gives_of (atomic name class settings) f = unwrap_or (slice_get gave f) []

  pub record HeadPart (c : Tree) (n f : ℕ) (own : Word → List Value) : Type 0 where
    pub gives : (part n).gives ≡ gives_of c f
    pub takes : (part n).takes ≡ bag_of (map own (ins_in c))
    pub woken : (part n).woken ≡ false
    pub answers : (part n).answers ≡ told at gave c f own

  pub head-part : (c : Tree) (n f : ℕ) (own : Word → List Value)
      → ContainsFrom pt n (parts_from at gave c f own) → HeadPart c n f own
  head-part (coupled name ins outs children links) n f own h =
      let e = part-is n _ h.0 in record { gives = ap (λ (p : Part). p.gives) e; takes = ap (λ (p : Part). p.takes) e; woken = ap (λ (p : Part). p.woken) e; answers = ap (λ (p : Part). p.answers) e }
  head-part (cells g) n f own h =
      let e = part-is n _ h.0 in record { gives = ap (λ (p : Part). p.gives) e; takes = ap (λ (p : Part). p.takes) e; woken = ap (λ (p : Part). p.woken) e; answers = ap (λ (p : Part). p.answers) e }
  head-part (atomic name class settings) n f own h =
      let e = part-is n _ h.0 in record { gives = ap (λ (p : Part). p.gives) e; takes = ap (λ (p : Part). p.takes) e; woken = ap (λ (p : Part). p.woken) e; answers = ap (λ (p : Part). p.answers) e }

  parts-off : (c : Tree) (rest : Trees) (n f : ℕ) (own : Word → Word → List Value)
      → ContainsFrom pt n (all_parts_from at gave (cons c rest) f own)
      → ContainsFrom pt n (parts_from at gave c f (own (name_of c))) × ContainsFrom pt (n + size c) (all_parts_from at gave rest (f + leaf_count c) own)
  parts-off c rest n f own h =
      let r = stands-split pt n (parts_from at gave c f (own (name_of c))) (all_parts_from at gave rest (f + leaf_count c) own) h in
      (r.0, subst (λ k. ContainsFrom pt (n + k) (all_parts_from at gave rest (f + leaf_count c) own)) (parts-many at gave c f (own (name_of c))) r.1)

  -- ---- what a child gave at a port

  by-outs : (ins outs : List Word) (count : ℕ) (links : List Link) (port : Word) (child : Word → Word → List Value) (cell : ℕ → List Value) (out : Word → List Value)
      → AreWithin ins outs count links → ((p : Word) → out p ≡ what_links_bring links (is_own p) nothing child cell)
      → (b : Bool) → is_among outs port ≡ b → at_own outs (bag_of (map out outs)) port ≡ out port
  by-outs ins outs count links port child cell out within is true among = at-own outs out port among
  by-outs ins outs count links port child cell out within is false among =
      at-none outs (bag_of (map out outs)) port among
      ∙ sym (is port ∙ none-leads ins outs count links port nothing child cell within among)

  found-out : (c : Tree) (f : ℕ) (port : Word) → IsLinked c
      → at_found (gives_of c f) (out_number (node_of c f) port) ≡ given_out c f give port
  found-out (coupled name ins outs children links) f port linked =
      by-outs ins outs 0 links port (given_by children f give) nothing (given_out (coupled name ins outs children links) f give) linked.1 (λ p. refl) (is_among outs port) refl
  found-out (cells g) f port linked =
      by-outs g.ins g.outs (cell_count g.space) g.links port (λ p c. []) (λ n. give (f + n)) (given_out (cells g) f give) linked.1 (λ p. refl) (is_among g.outs port) refl
  found-out (atomic name class settings) f port linked = refl

  child-gives : (ts : Trees) (m q f : ℕ) (own : Word → Word → List Value)
      → ContainsFrom ps m (all_processors_from ts m q f)
      → ContainsFrom pt m (all_parts_from at gave ts f own) → AreLinked ts
      → (kept : List Kept) → HaveGiven part kept (child_numbers ts m) → (port child : Word) → child_gave at kept (child_numbers ts m) port child ≡ given_by ts f give port child
  child-gives nil m q f own h k linked kept have port child = refl
  child-gives (cons c rest) m q f own h k linked kept have port child =
      let s = split-off ps c rest m q f h in
      let r = parts-off c rest m f own k in
      let head = head-at ps c m q f s.0 in
      let mine = head-part c m f (own (name_of c)) r.0 in
      let others : List Value = child_gave at kept (child_numbers rest (m + size c)) port child in
      at-here ps m [] (λ p. if bytes_eq (node_name p.node) child then at_found (gave_of kept m) (out_number p.node port) else others) head.0 head.1
      ∙ ap (λ nd. if bytes_eq (node_name nd) child then at_found (gave_of kept m) (out_number nd port) else others) head.2
      ∙ (λ i. if bytes_eq (name-is c f i) child then at_found ((have m (omega (arith, one_if-same m m refl)) ∙ mine.gives) i) (out_number (node_of c f) port) else others)
      ∙ (λ i. if bytes_eq (name_of c) child then found-out c f port linked.0 i else
      child-gives rest (m + size c) q (f + leaf_count c) own s.1 r.1 linked.1 kept (λ x le. have x (omega (arith, le))) port child i)

  -- ---- what a coupled component hands on

  begins-same : (ins outs : List Word) (own : Word → List Value) (child child' : Word → Word → List Value) (links : List Link)
      → AreWithin ins outs 0 links → ((p c : Word) → child p c ≡ child' p c)
      → AllByRecursion (λ (l : Link). at_source l.from (at_own ins (bag_of (map own ins))) child nothing ≡ at_source l.from own child' nothing) links
  begins-same ins outs own child child' [] within same = tt
  begins-same ins outs own child child' (l ∷ ls) within same = (by l.from within.0.0, begins-same ins outs own child child' ls within.1 same)
    where
      by : (e : End) → BeginsWithin ins 0 e
          → at_source e (at_own ins (bag_of (map own ins))) child nothing ≡ at_source e own child' nothing
      by (Own p) h = at-own ins own p h
      by (Child p c) h = same p c
      by (Cell p n) h = refl

  handed-is : (kept : List Kept) (ns : List ℕ) (ins outs : List Word) (links : List Link) (children c : Trees) (f f' : ℕ) (own : Word → List Value) (t : Tree)
      → AreWithin ins outs 0 links → ((p d : Word) → child_gave at kept ns p d ≡ given_by children f give p d)
      → bag_at_inputs at kept ns ins links (bag_of (map own ins)) (node_of t f') ≡ bag_of (map (own_of gave links children f own (name_of t)) (ins_in t))
  handed-is kept ns ins outs links children c f f' own t within same =
      (λ i. bag_of (map (λ port. what_links_bring links (is_child port (name-is t f' i)) (at_own ins (bag_of (map own ins))) (child_gave at kept ns) nothing) (ins-are t f' i)))
      ∙ ap bag_of (map-both
      (λ port. what_links_bring links (is_child port (name_of t)) (at_own ins (bag_of (map own ins))) (child_gave at kept ns) nothing)
      (own_of gave links children f own (name_of t))
      (ins_in t)
      (λ port. brought-same links (is_child port (name_of t)) (at_own ins (bag_of (map own ins))) own (child_gave at kept ns) (given_by children f give) nothing nothing
      (begins-same ins outs own (child_gave at kept ns) (given_by children f give) links within same)))

  hand-over : (kept : List Kept) (ns : List ℕ) (ins outs : List Word) (links : List Link) (children : Trees) (f : ℕ) (own : Word → List Value)
      → AreWithin ins outs 0 links → ((p d : Word) → child_gave at kept ns p d ≡ given_by children f give p d)
      → (ts : Trees) (m q f' : ℕ) → ContainsFrom ps m (all_processors_from ts m q f') → ContainsFrom pt m (all_parts_from at gave ts f' (own_of gave links children f own))
      → flat_map (λ c. at_processor ps c [] (λ child. transition c (bag_at_inputs at kept ns ins links (bag_of (map own ins)) child.node) false ∷ [])) (child_numbers ts m)
      ≡ map (λ c. transition c (part c).takes (part c).woken) (child_numbers ts m)
  hand-over kept ns ins outs links children f own within same nil m q f' h k = refl
  hand-over kept ns ins outs links children f own within same (cons c rest) m q f' h k =
      let s = split-off ps c rest m q f' h in
      let r = parts-off c rest m f' (own_of gave links children f own) k in
      let head = head-at ps c m q f' s.0 in
      let mine = head-part c m f' (own_of gave links children f own (name_of c)) r.0 in
      let one : at_processor ps m [] (λ child. transition m (bag_at_inputs at kept ns ins links (bag_of (map own ins)) child.node) false ∷ []) ≡ transition m (part m).takes (part m).woken ∷ []
      = at-here ps m [] (λ child. transition m (bag_at_inputs at kept ns ins links (bag_of (map own ins)) child.node) false ∷ []) head.0 head.1
      ∙ ap (λ nd. transition m (bag_at_inputs at kept ns ins links (bag_of (map own ins)) nd) false ∷ []) head.2
      ∙ (λ i. transition m ((handed-is kept ns ins outs links children children f f' own c within same ∙ sym mine.takes) i) (sym mine.woken i) ∷ []) in
      λ i. one i ++ hand-over kept ns ins outs links children f own within same rest (m + size c) q (f' + leaf_count c) s.1 r.1 i

  -- ---- what a coupled component answers

  join-up : (ts : Trees) (m f : ℕ) (own : Word → Word → List Value)
      → ContainsFrom pt m (all_parts_from at gave ts f own) → (kept : List Kept)
      → HaveAnswered part kept (child_numbers ts m)
      → (next_of_children kept (child_numbers ts m) ≡ (all_told at gave ts f own).0) × (stop_of_children kept (child_numbers ts m) ≡ (all_told at gave ts f own).1)
  join-up nil m f own k kept have = (refl, refl)
  join-up (cons c rest) m f own k kept have =
      let r = parts-off c rest m f own k in
      let mine = head-part c m f (own (name_of c)) r.0 in
      let answer : child_answer kept m ≡ told at gave c f (own (name_of c)) = have m (omega (arith, one_if-same m m refl)) ∙ mine.answers in
      let others = join-up rest (m + size c) (f + leaf_count c) own r.1 kept (λ x le. have x (omega (arith, le))) in (
        (λ i. earlier (answer i).0 (others.0 i)),
        or-is (child_answer kept m).1 (stop_of_children kept (child_numbers rest (m + size c))) ∙ (λ i. or_else (answer i).1 (others.1 i)),
      )

  -- ---- a leaf

  gives-leaf : (l : ℕ) (s : LeafState) → slice_get at.states l ≡ Some s
      → unwrap_or (slice_get gave l) [] ≡ collected_of at.time s
  gives-leaf l s is =
      ap (λ bags. unwrap_or (slice_get bags l) []) given
      ∙ ap (λ (o : Option Bag). unwrap_or o []) (slice_get-map (collected_of at.time) at.states l ∙ ap (option_map (collected_of at.time)) is)

  leaf-works : (n q l : ℕ) (leaf : Leaf) (takes : Bag)
      → slice_get ps n ≡ Some (record { node = leaf_node l leaf; parent = q; children = [] })
      → part n ≡ leaf_part at gave l leaf takes → l < length at.states
      → LeafWorks at part n (record { node = leaf_node l leaf; parent = q; children = [] })
  leaf-works n q l leaf takes here is lt =
      let s = found-in at.states l lt in
      let me : Part = leaf_part at gave l leaf takes in
      record {
        alone = refl;
        gives =
            ap (λ (o : Option LeafState). elim o [ None ↦ [] | Some x ↦ output n (collected_of at.time x) ∷ [] ]) s.1
            ∙ ap (λ bag. output n bag ∷ []) (sym (gives-leaf l s.0 s.1))
            ∙ ap (λ (p : Part). output n p.gives ∷ []) (sym is);
        becomes =
            at-here ps n stayed _ (record { node = leaf_node l leaf; parent = q; children = [] }) here
            ∙ ap (λ (p : Part). leaf_became at l leaf p.takes p.woken) is
            ∙ ap (λ (p : Part). p.becomes) (sym is);
        answers = λ kept became.
            ap (λ m. leaf_done n l (slice_get at.states l) m ∷ []) (became ∙ ap (λ (p : Part). p.becomes) is)
            ∙ ap (λ k. k ∷ []) (leaf-done-is n l (slice_get at.states l) me.becomes)
            ∙ ap (λ (p : Part). done n p.answers.0 p.answers.1 ∷ []) (sym is);
      }

  -- ---- a group

  module _ (g : Group) (n q f : ℕ) (own : Word → List Value) (linked : IsLinked (cells g)) (h : ContainsFrom ps n (processors_from (cells g) n q f)) (k : ContainsFrom pt n (parts_from at gave (cells g) f own)) where
    abbrev count : ℕ
    count = cell_count g.space

    abbrev children : List ℕ
    children = range_with_len (n + 1) count

    cell-here : (j : ℕ) → j < count → slice_get ps ((n + 1) + j) ≡ Some (cell_processor g n f j)
    cell-here j lt = stands-range ps (n + 1) (cell_processor g n f) 0 count j h.1 lt ∙ ap (λ i. Some (cell_processor g n f i)) (let e : 0 + j ≡ j = omega arith in e)

    cell-part-is : (j : ℕ) → j < count → part ((n + 1) + j) ≡ cell_part at gave g f own j
    cell-part-is j lt = part-is ((n + 1) + j) (cell_part at gave g f own j) (stands-range pt (n + 1) (cell_part at gave g f own) 0 count j k.1 lt ∙ ap (λ i. Some (cell_part at gave g f own i)) (let e : 0 + j ≡ j = omega arith in e))

    is-listed : (j : ℕ) → j < count → times ((n + 1) + j) children ≡ 1
    is-listed j lt = range-times (n + 1) count ((n + 1) + j) (omega arith) (omega (arith, lt))

    module _ (kept : List Kept) (have : HaveGiven part kept children) where
      gave-cell : (j : ℕ) → j < count
          → cell_gave kept children j ≡ unwrap_or (slice_get gave (f + j)) []
      gave-cell j lt =
          ap (λ (o : Option ℕ). elim o [ None ↦ [] | Some x ↦ gave_of kept x ]) (get-range (n + 1) count j lt)
          ∙ have ((n + 1) + j) (omega (arith, is-listed j lt))
          ∙ ap (λ (p : Part). p.gives) (cell-part-is j lt)

      sources-same : (own1 own2 : Word → List Value)
          → ((p : Word) → is_among g.ins p ≡ true → own1 p ≡ own2 p) → (links : List Link)
          → AreWithin g.ins g.outs count links
          → AllByRecursion (λ (l : Link). at_source l.from own1 (λ p c. []) (λ m. at_number (cell_gave kept children m) 0) ≡ at_source l.from own2 (λ p c. []) (λ m. give (f + m))) links
      sources-same own1 own2 same [] within = tt
      sources-same own1 own2 same (l ∷ ls) within = (by l.from within.0.0, sources-same own1 own2 same ls within.1)
        where
          by : (e : End) → BeginsWithin g.ins count e
              → at_source e own1 (λ p c. []) (λ m. at_number (cell_gave kept children m) 0) ≡ at_source e own2 (λ p c. []) (λ m. give (f + m))
          by (Own p) among = same p among
          by (Child p c) among = refl
          by (Cell p m) lt = ap (λ bag. at_number bag 0) (gave-cell m lt)

      seen : (o : Option ℕ) → ((m : ℕ) → o ≡ Some m → m < count)
          → cell_gave_output kept children o ≡ run.gave_output gave (option_map (λ m. f + m) o)
      seen None inside = refl
      seen (Some m) inside = ap has_values (gave-cell m (inside m refl))

      any-seen : (j : ℕ) → j < count → (os : List Offset)
          → list_any (λ o. cell_gave_output kept children (neighbour g.space j o)) os ≡ list_any (λ o. run.gave_output gave (neighbour_leaf g f j o)) os
      any-seen j lt [] = refl
      any-seen j lt (o ∷ os) =
          λ i. seen (neighbour g.space j o) (λ m is. neighbour-inside g.space j m o lt is) i || any-seen j lt os i

      handed-cell-is : (j : ℕ)
          → handed_cell kept children g (bag_of (map own g.ins)) j ≡ (cell_part at gave g f own j).takes
      handed-cell-is j =
          ap bag_of (map-both
          (λ port. what_links_bring g.links (is_cell port j) (at_own g.ins (bag_of (map own g.ins))) (λ p c. []) (λ m. at_number (cell_gave kept children m) 0))
          (λ port. what_links_bring g.links (is_cell port j) own (λ p c. []) (λ m. give (f + m)))
          (cell_ports g j)
          (λ port. brought-same g.links (is_cell port j) (at_own g.ins (bag_of (map own g.ins))) own (λ p c. []) (λ p c. []) (λ m. at_number (cell_gave kept children m) 0) (λ m. give (f + m))
          (sources-same (at_own g.ins (bag_of (map own g.ins))) own (λ p among. at-own g.ins own p among) g.links linked.1)))

      abbrev to_cell : ℕ × ℕ → Message
      to_cell c = transition c.1 (handed_cell kept children g (bag_of (map own g.ins)) c.0) (is_cell_woken kept children g c.0)

      cells-over : (a left m : ℕ) → m ≡ (n + 1) + a → a + left ≡ count
          → map to_cell (enumerate_from a (range_with_len m left)) ≡ map (λ c. transition c (part c).takes (part c).woken) (range_with_len m left)
      cells-over a zero m is all = refl
      cells-over a (suc left) m is all =
          let lt : a < count = omega (arith, all) in
          let mine : part m ≡ cell_part at gave g f own a = ap part is ∙ cell-part-is a lt in
          let one : to_cell (a, m) ≡ transition m (part m).takes (part m).woken
          = (λ i. transition m (handed-cell-is a i) (any-seen a lt g.offsets i)) ∙ ap (λ (p : Part). transition m p.takes p.woken) (sym mine) in
          λ i. one i ∷ cells-over (a + 1) left (m + 1) (omega (arith, is)) (omega (arith, all)) i

    join-cells : (kept : List Kept) → HaveAnswered part kept children → (a left m : ℕ)
        → m ≡ (n + 1) + a → a + left ≡ count
        → (next_of_children kept (range_with_len m left) ≡ (all_joined (map (λ (p : Part). p.answers) (map (cell_part at gave g f own) (range_with_len a left)))).0)
        × (stop_of_children kept (range_with_len m left) ≡ (all_joined (map (λ (p : Part). p.answers) (map (cell_part at gave g f own) (range_with_len a left)))).1)
    join-cells kept have a zero m is all = (refl, refl)
    join-cells kept have a (suc left) m is all =
        let lt : a < count = omega (arith, all) in
        let answer : child_answer kept m ≡ (cell_part at gave g f own a).answers
        = ap (child_answer kept) is ∙ have ((n + 1) + a) (omega (arith, is-listed a lt)) ∙ ap (λ (p : Part). p.answers) (cell-part-is a lt) in
        let others = join-cells kept have (a + 1) left (m + 1) (omega (arith, is)) (omega (arith, all)) in (
          (λ i. earlier (answer i).0 (others.0 i)),
          or-is (child_answer kept m).1 (stop_of_children kept (range_with_len (m + 1) left)) ∙ (λ i. or_else (answer i).1 (others.1 i)),
        )

    group-works : InnerWorks at part n (record { node = group_node g; parent = q; children = children })
    group-works =
        let mine = head-part (cells g) n f own k in
        record {
          some = ((n + 1) + 0, let one = is-listed 0 linked.0 in omega (arith, one));
          asks = refl;
          gathers = λ kept have.
              ap bag_of (map-both
              (λ port. what_links_bring g.links (is_own port) nothing (λ p c. []) (λ m. at_number (cell_gave kept children m) 0))
              (given_out (cells g) f give) g.outs
              (λ port. brought-same g.links (is_own port) nothing nothing (λ p c. []) (λ p c. []) (λ m. at_number (cell_gave kept children m) 0) (λ m. give (f + m))
              (sources-same kept have nothing nothing (λ p among. refl) g.links linked.1)))
              ∙ sym mine.gives;
          becomes = at-here ps n stayed _ (record { node = group_node g; parent = q; children = children }) h.0 ∙ ap (λ (p : Part). p.becomes) (sym (part-is n _ k.0));
          hands = λ kept have.
              ap (λ bag. transition_from at kept n bag (record { node = group_node g; parent = q; children = children })) mine.takes
              ∙ cells-over kept have 0 count (n + 1) (omega arith) (omega arith);
          joins = λ kept have.
              let r = join-cells kept have 0 count (n + 1) (omega arith) (omega arith) in
              (r.0 ∙ ap (λ a. a.0) (sym mine.answers), r.1 ∙ ap (λ a. a.1) (sym mine.answers));
        }

  -- ---- all

  first-child : (ts : Trees) (m : ℕ) → HasChild ts → (x : ℕ) × (1 ≤ times x (child_numbers ts m))
  first-child nil m has = absurd has
  first-child (cons c rest) m has = (m, omega (arith, one_if-same m m refl))

  abbrev pub Does : ℕ → Processor → Type 0
  Does n p = KindWorks at part n p (is_leaf p.node)

  mutual
    pub works-tree : (c : Tree) (n q f : ℕ) (own : Word → List Value) → IsLinked c
        → ContainsFrom ps n (processors_from c n q f) → ContainsFrom pt n (parts_from at gave c f own)
        → f + leaf_count c ≤ length at.states → AllFrom Does n (processors_from c n q f)
    works-tree (coupled name ins outs children links) n q f own linked h k room =
        let me : Processor = record { node = coupled_node name ins outs links; parent = q; children = child_numbers children (n + 1) } in
        let mine = head-part (coupled name ins outs children links) n f own k in
        let below = own_of gave links children f own in
        let ns = child_numbers children (n + 1) in
        let gives : (kept : List Kept) → HaveGiven part kept ns → (p d : Word) → child_gave at kept ns p d ≡ given_by children f give p d
        = λ kept have. child-gives children (n + 1) n f below h.1 k.1 linked.2 kept have in (
          record {
            some = first-child children (n + 1) linked.0;
            asks = refl;
            gathers = λ kept have. (λ i. bag_of (map (λ port. what_links_bring links (is_own port) nothing (λ p d. gives kept have p d i) nothing) outs)) ∙ sym mine.gives;
            becomes = at-here ps n stayed _ me h.0 ∙ ap (λ (p : Part). p.becomes) (sym (part-is n _ k.0));
            hands = λ kept have.
                ap (λ bag. transition_from at kept n bag me) mine.takes
                ∙ hand-over kept ns ins outs links children f own linked.1 (gives kept have) children (n + 1) n f h.1 k.1;
            joins = λ kept have.
                let r = join-up children (n + 1) f below k.1 kept have in
                (r.0 ∙ ap (λ a. a.0) (sym mine.answers), r.1 ∙ ap (λ a. a.1) (sym mine.answers));
          },
          works-trees children (n + 1) n f below linked.2 h.1 k.1 room,
        )
    works-tree (cells g) n q f own linked h k room = (
      group-works g n q f own linked h k,
      all-from-range Does (n + 1) (cell_processor g n f) 0 (cell_count g.space) (λ j lt.
          leaf-works ((n + 1) + j) n (f + (0 + j)) (cell_leaf g f (0 + j))
          (cell_part at gave g f own (0 + j)).takes
          (stands-range ps (n + 1) (cell_processor g n f) 0 (cell_count g.space) j h.1 lt)
          (part-is ((n + 1) + j) _ (stands-range pt (n + 1) (cell_part at gave g f own) 0 (cell_count g.space) j k.1 lt))
          (omega (arith, room, lt))),
    )
    works-tree (atomic name class settings) n q f own linked h k room =
        (leaf-works n q f (atomic_leaf name class settings) (bag_of (map own (class_ports class))) h.0 (part-is n _ k.0) (omega (arith, room)), tt)

    works-trees : (ts : Trees) (n q f : ℕ) (own : Word → Word → List Value) → AreLinked ts
        → ContainsFrom ps n (all_processors_from ts n q f)
        → ContainsFrom pt n (all_parts_from at gave ts f own) → f + leaf_counts ts ≤ length at.states
        → AllFrom Does n (all_processors_from ts n q f)
    works-trees nil n q f own linked h k room = tt
    works-trees (cons c rest) n q f own linked h k room =
        let s = split-off ps c rest n q f h in
        let r = parts-off c rest n f own k in
        all-from-append Does n (n + size c) (processors_from c n q f) (all_processors_from rest (n + size c) q (f + leaf_count c))
        (ap (λ m. n + m) (sym (size-is c n q f)))
        (works-tree c n q f (own (name_of c)) linked.0 s.0 r.0 (omega (arith, room)))
        (works-trees rest (n + size c) q (f + leaf_count c) own linked.1 s.1 r.1 (omega (arith, room)))
