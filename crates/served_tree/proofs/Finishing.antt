-- What the processors keep in the end is the cycle of the reference run.
use Rattle.std.proofs.Common.{◌≡◌, ℕ, zero, suc, ◌+◌, ◌<◌, ◌≤◌, ◌||◌, Option, Some, None, List, [], ◌∷◌, ◌++◌, map, length, drop, refl, sym, ◌∙◌, ap, arith, length-append}
use Rattle.std.specs.Prelude.{slice_get, unwrap_or, if◌then◌else◌}
use Rattle.std.specs.List.{range_with_len, enumerate_from, flat_map, cons_option}
use Rattle.std.specs.Option.{option_map}
use Rattle.std.proofs.lemmas.List.{length-map, map-append, drop-drop}
use Rattle.std.proofs.lemmas.Option.{slice_get-map}
use Rattle.quantity.specs.declared.value.Value.{Value}
use Rattle.cell_grid.specs.Space.{cell_count}
use Rattle.atomic_face.specs.Classes.{Bag, is_at}
use Rattle.model_tree.specs.Tree.{Word, Group, Tree, Trees, coupled, cells, atomic, nil, cons, Leaf, atomic_leaf, cell_leaf, name_of, leaf_count, leaf_counts, leaves_from, all_leaves_from}
use Rattle.model_tree.specs.Pull.{cell_ports, is_cell, what_links_bring, taken_in, all_taken_in}
use Rattle.run_model.specs.Cycle as run
use Rattle.run_model.specs.Cycle.{LeafState, leaf_next, leaf_emitted, collected_of, output_bags, given_by_leaf, at_port, bag_of, bags, has_values, Moved, stayed, moved, stopped, leaf_moved, move_in_cycle, all_asked, moves, first_stop}
use Rattle.run_model.specs.Run.{out_records}
use Rattle.served_tree.specs.Processors.{Processor, size, processors_from, all_processors_from}
use Rattle.served_tree.specs.Service.{StoppedLeaf, Kept, Instant}
use Rattle.served_tree.specs.KeptCycle.{of_leaf, of_leaves, out_record}
use Rattle.served_tree.specs.Parts.{Part, leaf_answer, leaf_part, or_else, all_joined, cell_part, box_part, cell_parts, own_of, told, all_told, parts_from, all_parts_from}
use Rattle.served_tree.specs.Course.{kept_after}
use Rattle.served_tree.proofs.Counting.{found-in}
use Rattle.served_tree.proofs.Lists.{length-range, get-range, same-by-places}
use Rattle.served_tree.proofs.Placing.{cell_processor, size-is}
use Rattle.served_tree.proofs.Parting.{parts-many}

-- what is kept of a processor in the end
abbrev pub kept_last : Part → Kept
kept_last p = kept_after p 4

-- ---- the leaves among the processors

abbrev pub leaves_of : {A : Type 0} → (Kept → A) → List Processor → List Kept → List A
leaves_of sel [] ks = []
leaves_of sel (p ∷ ps) [] = []
leaves_of sel (p ∷ ps) (k ∷ ks) = cons_option (of_leaf sel (p, k)) (leaves_of sel ps ks)

pub of-leaves : {A : Type 0} (sel : Kept → A) (at : Instant) (ps : List Processor) (ks : List Kept)
    → of_leaves sel (record at { processors = ps }) ks ≡ leaves_of sel ps ks
of-leaves sel at [] ks = refl
of-leaves sel at (p ∷ ps) [] = refl
of-leaves sel at (p ∷ ps) (k ∷ ks) = ap (cons_option (of_leaf sel (p, k))) (of-leaves sel at ps ks)

option-front : {A : Type 0} (o : Option A) (xs ys : List A)
    → cons_option o (xs ++ ys) ≡ cons_option o xs ++ ys
option-front None xs ys = refl
option-front (Some x) xs ys = refl

leaves-append : {A : Type 0} (sel : Kept → A) (ps qs : List Processor) (ks ls : List Kept)
    → length ps ≡ length ks
    → leaves_of sel (ps ++ qs) (ks ++ ls) ≡ leaves_of sel ps ks ++ leaves_of sel qs ls
leaves-append sel [] qs [] ls e = refl
leaves-append sel [] qs (k ∷ ks) ls e = absurd (omega (arith, e))
leaves-append sel (p ∷ ps) qs [] ls e = absurd (omega (arith, e))
leaves-append sel (p ∷ ps) qs (k ∷ ks) ls e =
    ap (cons_option (of_leaf sel (p, k))) (leaves-append sel ps qs ks ls (omega (arith, e)))
    ∙ option-front (of_leaf sel (p, k)) (leaves_of sel ps ks) (leaves_of sel qs ls)

-- ---- stops

stop-cons : (m : ℕ) (before : Option LeafState) (x : Moved) (ms : List Moved)
    → or_else (leaf_answer m before x).1 (first_stop (m + 1) ms) ≡ first_stop m (x ∷ ms)
stop-cons m before (stopped why) ms = refl
stop-cons m before (moved s) ms = refl
stop-cons m None stayed ms = refl
stop-cons m (Some s) stayed ms = refl

stop-append : (f n : ℕ) (xs ys : List Moved) → n ≡ f + length xs
    → first_stop f (xs ++ ys) ≡ or_else (first_stop f xs) (first_stop n ys)
stop-append f n [] ys e = ap (λ k. first_stop k ys) (let g : f ≡ n = omega (arith, e) in g)
stop-append f n (stayed ∷ xs) ys e = stop-append (f + 1) n xs ys (omega (arith, e))
stop-append f n (moved s ∷ xs) ys e = stop-append (f + 1) n xs ys (omega (arith, e))
stop-append f n (stopped why ∷ xs) ys e = refl

or-nothing : (a : StoppedLeaf) → a ≡ or_else a None
or-nothing None = refl
or-nothing (Some s) = refl

dropped : (n : ℕ) (xs : List LeafState) → length xs ≤ n + length (drop n xs)
dropped zero xs = omega arith
dropped (suc n) [] = omega arith
dropped (suc n) (x ∷ xs) = let h = dropped n xs in omega (arith, h)

-- ---- outputs

out-port : (p : ℕ) (vs : List Value) → map out_record (at_port (p, vs)) ≡ out_records (p, vs)
out-port p [] = refl
out-port p (v ∷ vs) = ap (λ l. record { port = p; value = v } ∷ l) (out-port p vs)

pub outs-are : (k : ℕ) (lists : List (List Value))
    → map out_record (flat_map at_port (enumerate_from k lists)) ≡ flat_map out_records (enumerate_from k lists)
outs-are k [] = refl
outs-are k (vs ∷ lists) =
    map-append out_record (at_port (k, vs)) (flat_map at_port (enumerate_from (k + 1) lists))
    ∙ (λ i. out-port k vs i ++ outs-are (k + 1) lists i)

-- ---- numbers of leaves

range-append : (a n m : ℕ)
    → range_with_len a (n + m) ≡ range_with_len a n ++ range_with_len (a + n) m
range-append a zero m = (λ i. range_with_len a ((let e : 0 + m ≡ m = omega arith in e) i)) ∙ ap (λ k. range_with_len k m) (let e : a ≡ a + 0 = omega arith in e)
range-append a (suc n) m =
    ap (range_with_len a) (let e : suc n + m ≡ suc (n + m) = omega arith in e)
    ∙ ap (λ l. a ∷ l) (range-append (a + 1) n m ∙ ap (λ k. range_with_len (a + 1) n ++ range_with_len k m) (let e : (a + 1) + n ≡ a + suc n = omega arith in e))

drop-at : (xs : List LeafState) (n : ℕ) → n < length xs
    → (x : LeafState) × (slice_get xs n ≡ Some x) × (drop n xs ≡ x ∷ drop (n + 1) xs)
drop-at [] n lt = absurd (omega (arith, lt))
drop-at (x ∷ xs) zero lt = (x, refl, refl)
drop-at (x ∷ xs) (suc n) lt =
    let h = drop-at xs n (omega (arith, lt)) in
    (h.0, h.1, h.2 ∙ ap (λ l. h.0 ∷ l) (ap (λ k. drop k (x ∷ xs)) (let e : suc (n + 1) ≡ suc n + 1 = omega arith in e)))

mutual
  pub leaves-many : (c : Tree) (f : ℕ) → length (leaves_from c f) ≡ leaf_count c
  leaves-many (coupled name ins outs children links) f = all-leaves-many children f
  leaves-many (cells g) f = length-map (range_with_len 0 (cell_count g.space)) (cell_leaf g f) ∙ length-range 0 (cell_count g.space)
  leaves-many (atomic name class settings) f = refl

  all-leaves-many : (ts : Trees) (f : ℕ) → length (all_leaves_from ts f) ≡ leaf_counts ts
  all-leaves-many nil f = refl
  all-leaves-many (cons c rest) f =
      length-append (leaves_from c f) (all_leaves_from rest (f + leaf_count c))
      ∙ (λ i. leaves-many c f i + all-leaves-many rest (f + leaf_count c) i)

asked-append : (t : ℕ) (em : List LeafState) (gave : List Bag) (ls ms : List Leaf) (ss : List LeafState) (bs cs : List Bag)
    → length ls ≡ length bs → length ls ≤ length ss
    → all_asked t em gave (ls ++ ms) ss (bs ++ cs) ≡ all_asked t em gave ls ss bs ++ all_asked t em gave ms (drop (length ls) ss) cs
asked-append t em gave [] ms ss [] cs e le = refl
asked-append t em gave [] ms ss (b ∷ bs) cs e le = absurd (omega (arith, e))
asked-append t em gave (l ∷ ls) ms ss [] cs e le = absurd (omega (arith, e))
asked-append t em gave (l ∷ ls) ms [] (b ∷ bs) cs e le = absurd (omega (arith, le))
asked-append t em gave (l ∷ ls) ms (s ∷ ss) (b ∷ bs) cs e le =
    ap (λ r. move_in_cycle t em gave l s b ∷ r) (asked-append t em gave ls ms ss bs cs (omega (arith, e)) (omega (arith, le)))

pub list-again : {X : Type 0} (xs : List X) (d : X) (k : ℕ) → k ≡ length xs
    → map (λ l. unwrap_or (slice_get xs l) d) (range_with_len 0 k) ≡ xs
list-again {X = X} xs d k e =
    let read : ℕ → X = λ l. unwrap_or (slice_get xs l) d in
    let long : length (map read (range_with_len 0 k)) ≡ k = length-map (range_with_len 0 k) read ∙ length-range 0 k in
    same-by-places (map read (range_with_len 0 k)) xs (long ∙ e) (λ n lt.
    let x = found-in xs n (omega (arith, lt, long, e)) in
    slice_get-map read (range_with_len 0 k) n
    ∙ ap (option_map read) (get-range 0 k n (omega (arith, lt, long)))
    ∙ ap (λ i. Some (read i)) (let z : 0 + n ≡ n = omega arith in z)
    ∙ ap (λ o. Some (unwrap_or o d)) x.1 ∙ sym x.1)

module _ (at : Instant) (gave : List Bag) where
  abbrev give : ℕ → List Value
  give = given_by_leaf gave

  -- ---- the parts of the leaves

  abbrev mutual
    pub leaf_parts : Tree → ℕ → (Word → List Value) → List Part
    leaf_parts (coupled name ins outs children links) f own = all_leaf_parts children f (own_of gave links children f own)
    leaf_parts (cells g) f own = cell_parts at gave g f own
    leaf_parts (atomic name class settings) f own = box_part at gave name class settings f own ∷ []

    pub all_leaf_parts : Trees → ℕ → (Word → Word → List Value) → List Part
    all_leaf_parts nil f own = []
    all_leaf_parts (cons c rest) f own = leaf_parts c f (own (name_of c)) ++ all_leaf_parts rest (f + leaf_count c) own

  mutual
    leaf-parts-many : (c : Tree) (f : ℕ) (own : Word → List Value)
        → length (leaf_parts c f own) ≡ leaf_count c
    leaf-parts-many (coupled name ins outs children links) f own = all-leaf-parts-many children f (own_of gave links children f own)
    leaf-parts-many (cells g) f own = length-map (range_with_len 0 (cell_count g.space)) (cell_part at gave g f own) ∙ length-range 0 (cell_count g.space)
    leaf-parts-many (atomic name class settings) f own = refl

    all-leaf-parts-many : (ts : Trees) (f : ℕ) (own : Word → Word → List Value)
        → length (all_leaf_parts ts f own) ≡ leaf_counts ts
    all-leaf-parts-many nil f own = refl
    all-leaf-parts-many (cons c rest) f own =
        length-append (leaf_parts c f (own (name_of c))) (all_leaf_parts rest (f + leaf_count c) own)
        ∙ (λ i. leaf-parts-many c f (own (name_of c)) i + all-leaf-parts-many rest (f + leaf_count c) own i)

  -- ---- what the leaves' processors keep

  cells-kept : {A : Type 0} (sel : Kept → A) (g : Group) (n f : ℕ) (own : Word → List Value) (a k : ℕ)
      → leaves_of sel (map (cell_processor g n f) (range_with_len a k)) (map kept_last (map (cell_part at gave g f own) (range_with_len a k))) ≡ map (λ p. sel (kept_last p)) (map (cell_part at gave g f own) (range_with_len a k))
  cells-kept sel g n f own a zero = refl
  cells-kept sel g n f own a (suc k) = ap (λ l. sel (kept_last (cell_part at gave g f own a)) ∷ l) (cells-kept sel g n f own (a + 1) k)

  mutual
    pub leaves-kept : {A : Type 0} (sel : Kept → A) (c : Tree) (n q f : ℕ) (own : Word → List Value)
        → leaves_of sel (processors_from c n q f) (map kept_last (parts_from at gave c f own)) ≡ map (λ p. sel (kept_last p)) (leaf_parts c f own)
    leaves-kept sel (coupled name ins outs children links) n q f own = all-leaves-kept sel children (n + 1) n f (own_of gave links children f own)
    leaves-kept sel (cells g) n q f own = cells-kept sel g n f own 0 (cell_count g.space)
    leaves-kept sel (atomic name class settings) n q f own = refl

    all-leaves-kept : {A : Type 0} (sel : Kept → A) (ts : Trees) (n q f : ℕ) (own : Word → Word → List Value)
        → leaves_of sel (all_processors_from ts n q f) (map kept_last (all_parts_from at gave ts f own)) ≡ map (λ p. sel (kept_last p)) (all_leaf_parts ts f own)
    all-leaves-kept sel nil n q f own = refl
    all-leaves-kept sel (cons c rest) n q f own =
        let here = parts_from at gave c f (own (name_of c)) in
        let there = all_parts_from at gave rest (f + leaf_count c) own in
        ap (leaves_of sel (all_processors_from (cons c rest) n q f)) (map-append kept_last here there)
        ∙ leaves-append sel (processors_from c n q f) (all_processors_from rest (n + size c) q (f + leaf_count c)) (map kept_last here) (map kept_last there)
        (size-is c n q f ∙ sym (length-map here kept_last ∙ parts-many at gave c f (own (name_of c))))
        ∙ (λ i. leaves-kept sel c n q f (own (name_of c)) i ++ all-leaves-kept sel rest (n + size c) q (f + leaf_count c) own i)
        ∙ sym (map-append (λ p. sel (kept_last p)) (leaf_parts c f (own (name_of c))) (all_leaf_parts rest (f + leaf_count c) own))

  -- ---- what they gave

  abbrev gave_at : ℕ → Bag
  gave_at l = unwrap_or (slice_get gave l) []

  cells-gave : (g : Group) (f : ℕ) (own : Word → List Value) (a k m : ℕ) → m ≡ f + a
      → map (λ (p : Part). p.gives) (map (cell_part at gave g f own) (range_with_len a k)) ≡ map gave_at (range_with_len m k)
  cells-gave g f own a zero m e = refl
  cells-gave g f own a (suc k) m e = λ i. gave_at (sym e i) ∷ cells-gave g f own (a + 1) k (m + 1) (omega (arith, e)) i

  mutual
    pub leaves-gave : (c : Tree) (f : ℕ) (own : Word → List Value)
        → map (λ (p : Part). p.gives) (leaf_parts c f own) ≡ map gave_at (range_with_len f (leaf_count c))
    leaves-gave (coupled name ins outs children links) f own = all-leaves-gave children f (own_of gave links children f own)
    leaves-gave (cells g) f own = cells-gave g f own 0 (cell_count g.space) f (omega arith)
    leaves-gave (atomic name class settings) f own = refl

    all-leaves-gave : (ts : Trees) (f : ℕ) (own : Word → Word → List Value)
        → map (λ (p : Part). p.gives) (all_leaf_parts ts f own) ≡ map gave_at (range_with_len f (leaf_counts ts))
    all-leaves-gave nil f own = refl
    all-leaves-gave (cons c rest) f own =
        map-append (λ (p : Part). p.gives) (leaf_parts c f (own (name_of c))) (all_leaf_parts rest (f + leaf_count c) own)
        ∙ (λ i. leaves-gave c f (own (name_of c)) i ++ all-leaves-gave rest (f + leaf_count c) own i)
        ∙ sym (map-append gave_at (range_with_len f (leaf_count c)) (range_with_len (f + leaf_count c) (leaf_counts rest)))
        ∙ ap (map gave_at) (sym (range-append f (leaf_count c) (leaf_counts rest)))

  -- ---- what they took

  cells-took : (g : Group) (f : ℕ) (own : Word → List Value) (xs : List ℕ)
      → map (λ (p : Part). p.takes) (map (cell_part at gave g f own) xs) ≡ map bag_of (map (λ k. map (λ port. what_links_bring g.links (is_cell port k) own (λ p c. []) (λ m. give (f + m))) (cell_ports g k)) xs)
  cells-took g f own [] = refl
  cells-took g f own (x ∷ xs) = ap (λ l. (cell_part at gave g f own x).takes ∷ l) (cells-took g f own xs)

  mutual
    pub leaves-took : (c : Tree) (f : ℕ) (own : Word → List Value)
        → map (λ (p : Part). p.takes) (leaf_parts c f own) ≡ map bag_of (taken_in c f give own)
    leaves-took (coupled name ins outs children links) f own = all-leaves-took children f (own_of gave links children f own)
    leaves-took (cells g) f own = cells-took g f own (range_with_len 0 (cell_count g.space))
    leaves-took (atomic name class settings) f own = refl

    all-leaves-took : (ts : Trees) (f : ℕ) (own : Word → Word → List Value)
        → map (λ (p : Part). p.takes) (all_leaf_parts ts f own) ≡ map bag_of (all_taken_in ts f give own)
    all-leaves-took nil f own = refl
    all-leaves-took (cons c rest) f own =
        map-append (λ (p : Part). p.takes) (leaf_parts c f (own (name_of c))) (all_leaf_parts rest (f + leaf_count c) own)
        ∙ (λ i. leaves-took c f (own (name_of c)) i ++ all-leaves-took rest (f + leaf_count c) own i)
        ∙ sym (map-append bag_of (taken_in c f give (own (name_of c))) (all_taken_in rest (f + leaf_count c) give own))

  -- ---- what became of them

  one-became : (l : ℕ) (leaf : Leaf) (takes : Bag) (s : LeafState) → slice_get at.states l ≡ Some s
      → move_in_cycle at.time at.emitted gave leaf s takes ≡ (leaf_part at gave l leaf takes).becomes
  one-became l leaf takes s is =
      sym (ap (λ (o : Option LeafState). elim o [
        | None ↦ stayed
        | Some x ↦ if is_at at.time (leaf_next x) || run.is_woken gave leaf || has_values takes then leaf_moved at.time at.emitted (run.is_woken gave leaf) takes leaf x else stayed
      ]) is)

  abbrev Asked : List Leaf → ℕ → List Part → Type 0
  Asked ls f qs = all_asked at.time at.emitted gave ls (drop f at.states) (map (λ (p : Part). p.takes) qs) ≡ map (λ (p : Part). p.becomes) qs

  cells-became : (g : Group) (f : ℕ) (own : Word → List Value) (a k m : ℕ) → m ≡ f + a
      → m + k ≤ length at.states
      → Asked (map (cell_leaf g f) (range_with_len a k)) m (map (cell_part at gave g f own) (range_with_len a k))
  cells-became g f own a zero m e le = refl
  cells-became g f own a (suc k) m e le =
      let here = drop-at at.states m (omega (arith, le)) in
      let mine = cell_part at gave g f own a in
      let found : slice_get at.states (f + a) ≡ Some here.0 = ap (slice_get at.states) (sym e) ∙ here.1 in
      ap (λ ss. all_asked at.time at.emitted gave (cell_leaf g f a ∷ map (cell_leaf g f) (range_with_len (a + 1) k)) ss (mine.takes ∷ map (λ (p : Part). p.takes) (map (cell_part at gave g f own) (range_with_len (a + 1) k)))) here.2
      ∙ (λ i. one-became (f + a) (cell_leaf g f a) mine.takes here.0 found i ∷ cells-became g f own (a + 1) k (m + 1) (omega (arith, e)) (omega (arith, le)) i)

  mutual
    pub leaves-became : (c : Tree) (f : ℕ) (own : Word → List Value)
        → f + leaf_count c ≤ length at.states → Asked (leaves_from c f) f (leaf_parts c f own)
    leaves-became (coupled name ins outs children links) f own le = all-leaves-became children f (own_of gave links children f own) le
    leaves-became (cells g) f own le = cells-became g f own 0 (cell_count g.space) f (omega arith) le
    leaves-became (atomic name class settings) f own le =
        let here = drop-at at.states f (omega (arith, le)) in
        let mine = box_part at gave name class settings f own in
        ap (λ ss. all_asked at.time at.emitted gave (atomic_leaf name class settings ∷ []) ss (mine.takes ∷ [])) here.2
        ∙ ap (λ m. m ∷ []) (one-became f (atomic_leaf name class settings) mine.takes here.0 here.1)

    all-leaves-became : (ts : Trees) (f : ℕ) (own : Word → Word → List Value)
        → f + leaf_counts ts ≤ length at.states
        → Asked (all_leaves_from ts f) f (all_leaf_parts ts f own)
    all-leaves-became nil f own le = refl
    all-leaves-became (cons c rest) f own le =
        let qs = leaf_parts c f (own (name_of c)) in
        let rs = all_leaf_parts rest (f + leaf_count c) own in
        let ls = leaves_from c f in
        let ms = all_leaves_from rest (f + leaf_count c) in
        let takes : List Part → List Bag = λ ps. map (λ (p : Part). p.takes) ps in
        let many : length ls ≡ leaf_count c = leaves-many c f in
        let room : leaf_count c ≤ length (drop f at.states) = omega (arith, le, dropped f at.states) in
        ap (all_asked at.time at.emitted gave (ls ++ ms) (drop f at.states)) (map-append (λ (p : Part). p.takes) qs rs)
        ∙ asked-append at.time at.emitted gave ls ms (drop f at.states) (takes qs) (takes rs)
        (many ∙ sym (length-map qs (λ (p : Part). p.takes) ∙ leaf-parts-many c f (own (name_of c)))) (omega (arith, many, room))
        ∙ ap (λ ss. all_asked at.time at.emitted gave ls (drop f at.states) (takes qs) ++ all_asked at.time at.emitted gave ms ss (takes rs))
        (ap (λ k. drop k (drop f at.states)) many ∙ drop-drop (leaf_count c) f at.states)
        ∙ (λ i. leaves-became c f (own (name_of c)) (omega (arith, le)) i ++ all-leaves-became rest (f + leaf_count c) own (omega (arith, le)) i)
        ∙ sym (map-append (λ (p : Part). p.becomes) qs rs)

  -- ---- who stopped first

  cells-stop : (g : Group) (f : ℕ) (own : Word → List Value) (a k m : ℕ) → m ≡ f + a
      → (all_joined (map (λ (p : Part). p.answers) (map (cell_part at gave g f own) (range_with_len a k)))).1 ≡ first_stop m (map (λ (p : Part). p.becomes) (map (cell_part at gave g f own) (range_with_len a k)))
  cells-stop g f own a zero m e = refl
  cells-stop g f own a (suc k) m e =
      let mine = cell_part at gave g f own a in
      let rest = map (λ (p : Part). p.becomes) (map (cell_part at gave g f own) (range_with_len (a + 1) k)) in
      ap (or_else mine.answers.1) (cells-stop g f own (a + 1) k (m + 1) (omega (arith, e)))
      ∙ ap (λ x. or_else mine.answers.1 (first_stop (x + 1) rest)) e
      ∙ stop-cons (f + a) (slice_get at.states (f + a)) mine.becomes rest
      ∙ ap (λ x. first_stop x (mine.becomes ∷ rest)) (sym e)

  mutual
    pub leaves-stop : (c : Tree) (f : ℕ) (own : Word → List Value)
        → (told at gave c f own).1 ≡ first_stop f (map (λ (p : Part). p.becomes) (leaf_parts c f own))
    leaves-stop (coupled name ins outs children links) f own = all-leaves-stop children f (own_of gave links children f own)
    leaves-stop (cells g) f own = cells-stop g f own 0 (cell_count g.space) f (omega arith)
    leaves-stop (atomic name class settings) f own =
        let mine = box_part at gave name class settings f own in
        or-nothing mine.answers.1 ∙ stop-cons f (slice_get at.states f) mine.becomes []

    all-leaves-stop : (ts : Trees) (f : ℕ) (own : Word → Word → List Value)
        → (all_told at gave ts f own).1 ≡ first_stop f (map (λ (p : Part). p.becomes) (all_leaf_parts ts f own))
    all-leaves-stop nil f own = refl
    all-leaves-stop (cons c rest) f own =
        let qs = leaf_parts c f (own (name_of c)) in
        let rs = all_leaf_parts rest (f + leaf_count c) own in
        (λ i. or_else (leaves-stop c f (own (name_of c)) i) (all-leaves-stop rest (f + leaf_count c) own i))
        ∙ sym (stop-append f (f + leaf_count c) (map (λ (p : Part). p.becomes) qs) (map (λ (p : Part). p.becomes) rs)
        (ap (λ k. f + k) (sym (length-map qs (λ (p : Part). p.becomes) ∙ leaf-parts-many c f (own (name_of c))))))
        ∙ ap (first_stop f) (sym (map-append (λ (p : Part). p.becomes) qs rs))
