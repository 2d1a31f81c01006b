-- Where the processors of a tree stand.
use Rattle.std.proofs.Common.{◌≡◌, inl, inr, ℕ, suc, ◌+◌, ◌-◌, ◌<◌, ◌≤◌, Option, Some, List, [], map, length, refl, sym, ◌∙◌, ap, subst, arith, length-append}
use Rattle.std.specs.Prelude.{slice_get}
use Rattle.std.specs.List.{range_with_len}
use Rattle.std.proofs.lemmas.Bool.{cases_eq}
use Rattle.std.proofs.lemmas.List.{length-map}
use Rattle.cell_grid.specs.Space.{cell_count}
use Rattle.model_tree.specs.Tree.{Group, Tree, Trees, coupled, cells, atomic, nil, cons, atomic_leaf, cell_leaf, leaf_count}
use Rattle.served_tree.specs.Processors.{coupled_node, group_node, leaf_node, Processor, size, sizes, child_numbers, processors_from, all_processors_from}
use Rattle.served_tree.specs.Course.{IsChild, times}
use Rattle.served_tree.specs.Places.{ContainsFrom, node_of}
use Rattle.served_tree.proofs.Times.{one_if-same, one_if-other, times-range, range-times}
use Rattle.served_tree.proofs.Counting.{found-within, parent-is}
use Rattle.served_tree.proofs.Works.{Placed}
use Rattle.served_tree.proofs.Lists.{stands-split, stands-range, AllFrom, all-from-append, all-from-range, length-range}

-- ---- how many there are

pub size-pos : (c : Tree) → 0 < size c
size-pos (coupled name ins outs children links) = omega arith
size-pos (cells g) = omega arith
size-pos (atomic name class settings) = omega arith

-- the processor of a cell
abbrev pub cell_processor : Group → ℕ → ℕ → ℕ → Processor
cell_processor g n first k = record { node = leaf_node (first + k) (cell_leaf g first k); parent = n; children = [] }

mutual
  pub size-is : (c : Tree) (n q f : ℕ) → length (processors_from c n q f) ≡ size c
  size-is (coupled name ins outs children links) n q f = ap suc (sizes-are children (n + 1) n f)
  size-is (cells g) n q f = ap suc (length-map (range_with_len 0 (cell_count g.space)) (cell_processor g n f) ∙ length-range 0 (cell_count g.space))
  size-is (atomic name class settings) n q f = refl

  pub sizes-are : (ts : Trees) (n q f : ℕ) → length (all_processors_from ts n q f) ≡ sizes ts
  sizes-are nil n q f = refl
  sizes-are (cons c rest) n q f =
      length-append (processors_from c n q f) (all_processors_from rest (n + size c) q (f + leaf_count c))
      ∙ (λ i. size-is c n q f i + sizes-are rest (n + size c) q (f + leaf_count c) i)

pub split-off : (ps : List Processor) (c : Tree) (rest : Trees) (n q f : ℕ)
    → ContainsFrom ps n (all_processors_from (cons c rest) n q f)
    → ContainsFrom ps n (processors_from c n q f) × ContainsFrom ps (n + size c) (all_processors_from rest (n + size c) q (f + leaf_count c))
split-off ps c rest n q f h =
    let r = stands-split ps n (processors_from c n q f) (all_processors_from rest (n + size c) q (f + leaf_count c)) h in
    (r.0, subst (λ k. ContainsFrom ps (n + k) (all_processors_from rest (n + size c) q (f + leaf_count c))) (size-is c n q f) r.1)

-- ---- the first of a component

abbrev pub HeadAt : List Processor → Tree → ℕ → ℕ → ℕ → Type 0
HeadAt ps c n q f = (p : Processor) × (slice_get ps n ≡ Some p) × (p.node ≡ node_of c f) × (p.parent ≡ q)

pub head-at : (ps : List Processor) (c : Tree) (n q f : ℕ) → ContainsFrom ps n (processors_from c n q f)
    → HeadAt ps c n q f
head-at ps (coupled name ins outs children links) n q f h = (record { node = coupled_node name ins outs links; parent = q; children = child_numbers children (n + 1) }, h.0, refl, refl)
head-at ps (cells g) n q f h = (record { node = group_node g; parent = q; children = range_with_len (n + 1) (cell_count g.space) }, h.0, refl, refl)
head-at ps (atomic name class settings) n q f h = (record { node = leaf_node f (atomic_leaf name class settings); parent = q; children = [] }, h.0, refl, refl)

-- ---- children

pub child-low : (ts : Trees) (m x : ℕ) → 1 ≤ times x (child_numbers ts m) → m ≤ x
child-low nil m x le = absurd (omega (arith, le))
child-low (cons c rest) m x le = elim (cases_eq m x) [
  | inl e ↦ omega (arith, e)
  | inr ne ↦ let h = child-low rest (m + size c) x (omega (arith, le, one_if-other x m ne)) in omega (arith, h)
]

pub child-once : (ts : Trees) (m x : ℕ) → times x (child_numbers ts m) ≤ 1
child-once nil m x = omega arith
child-once (cons c rest) m x = elim (cases_eq m x) [
  | inl e ↦ elim (cases_eq (times x (child_numbers rest (m + size c))) 0) [
    | inl z ↦ omega (arith, z, one_if-same x m e)
    | inr some ↦
        let h = child-low rest (m + size c) x (omega (arith, some)) in
        absurd (omega (arith, h, e, size-pos c))
  ]
  | inr ne ↦ let h = child-once rest (m + size c) x in omega (arith, h, one_if-other x m ne)
]

pub child-found : (ps : List Processor) (ts : Trees) (m q f x : ℕ)
    → ContainsFrom ps m (all_processors_from ts m q f) → 1 ≤ times x (child_numbers ts m)
    → (p : Processor) × (slice_get ps x ≡ Some p) × (p.parent ≡ q)
child-found ps nil m q f x h le = absurd (omega (arith, le))
child-found ps (cons c rest) m q f x h le =
    let s = split-off ps c rest m q f h in
    elim (cases_eq m x) [
      | inl e ↦ let head = head-at ps c m q f s.0 in (head.0, ap (slice_get ps) (sym e) ∙ head.1, head.3)
      | inr ne ↦ child-found ps rest (m + size c) q (f + leaf_count c) x s.1 (omega (arith, le, one_if-other x m ne))
    ]

-- ---- where each stands

-- its parent has a lower number, and lists it once
abbrev Listed : List Processor → ℕ → ℕ → Type 0
Listed ps n q = 0 < n → (q < n) × ((p : Processor) → slice_get ps q ≡ Some p → times n p.children ≡ 1)

is-child-of : (ps : List Processor) (n x : ℕ) (p : Processor) → 0 < x → slice_get ps x ≡ Some p
    → p.parent ≡ n → IsChild ps n x
is-child-of ps n x p pos is parent = (pos, found-within ps x p is, parent-is ps x p is ∙ parent)

listed-by : (ps : List Processor) (n x : ℕ) (p : Processor) → n < x → slice_get ps n ≡ Some p
    → times x p.children ≡ 1 → Listed ps x n
listed-by ps n x p lt is once pos = (
  lt,
  λ r found.
      let both : ◌≡◌ {A = Option Processor} (Some p) (Some r) = sym is ∙ found in
      let same : p ≡ r = cc in
      ap (λ y. times x y.children) (sym same) ∙ once,
)

module _ (ps : List Processor) where
  cell-at : (g : Group) (n f x : ℕ)
      → ContainsFrom ps (n + 1) (map (cell_processor g n f) (range_with_len 0 (cell_count g.space)))
      → 1 ≤ times x (range_with_len (n + 1) (cell_count g.space))
      → (p : Processor) × (slice_get ps x ≡ Some p) × (p.parent ≡ n)
  cell-at g n f x h le =
      let within = times-range (n + 1) (cell_count g.space) x le in
      let j = x - (n + 1) in
      let here = stands-range ps (n + 1) (cell_processor g n f) 0 (cell_count g.space) j h (omega (arith, within)) in
      (cell_processor g n f (0 + j), ap (slice_get ps) (let e : x ≡ (n + 1) + j = omega (arith, within) in e) ∙ here, refl)

  mutual
    pub place-tree : (c : Tree) (n q f : ℕ) → ContainsFrom ps n (processors_from c n q f)
        → Listed ps n q → AllFrom (Placed ps) n (processors_from c n q f)
    place-tree (coupled name ins outs children links) n q f h up =
        let me : Processor = record { node = coupled_node name ins outs links; parent = q; children = child_numbers children (n + 1) } in (
          record {
            below = λ pos. (up pos).0;
            only = λ x le.
                let p = child-found ps children (n + 1) n f x h.1 le in
                let low = child-low children (n + 1) x le in
                is-child-of ps n x p.0 (omega (arith, low)) p.1 p.2;
            listed = λ pos. (up pos).1;
          },
          place-trees children (n + 1) n f h.1 (λ x le.
              let low = child-low children (n + 1) x le in
              let once = child-once children (n + 1) x in
              listed-by ps n x me (omega (arith, low)) h.0 (omega (arith, once, le))),
        )
    place-tree (cells g) n q f h up =
        let me : Processor = record { node = group_node g; parent = q; children = range_with_len (n + 1) (cell_count g.space) } in (
          record {
            below = λ pos. (up pos).0;
            only = λ x le.
                let p = cell-at g n f x h.1 le in
                let low = times-range (n + 1) (cell_count g.space) x le in
                is-child-of ps n x p.0 (omega (arith, low)) p.1 p.2;
            listed = λ pos. (up pos).1;
          },
          all-from-range (Placed ps) (n + 1) (cell_processor g n f) 0 (cell_count g.space) (λ j lt.
              let x = (n + 1) + j in
              let up' : Listed ps x n = listed-by ps n x me (omega arith) h.0 (range-times (n + 1) (cell_count g.space) x (omega arith) (omega (arith, lt))) in
              record {
                below = λ pos. omega arith;
                only = λ y le. absurd (omega (arith, le));
                listed = λ pos. (up' pos).1;
              }),
        )
    place-tree (atomic name class settings) n q f h up = (
      record {
        below = λ pos. (up pos).0;
        only = λ x le. absurd (omega (arith, le));
        listed = λ pos. (up pos).1;
      },
      tt,
    )

    place-trees : (ts : Trees) (n q f : ℕ) → ContainsFrom ps n (all_processors_from ts n q f)
        → ((x : ℕ) → 1 ≤ times x (child_numbers ts n) → Listed ps x q)
        → AllFrom (Placed ps) n (all_processors_from ts n q f)
    place-trees nil n q f h up = tt
    place-trees (cons c rest) n q f h up =
        let s = split-off ps c rest n q f h in
        all-from-append (Placed ps) n (n + size c) (processors_from c n q f) (all_processors_from rest (n + size c) q (f + leaf_count c))
        (ap (λ k. n + k) (sym (size-is c n q f)))
        (place-tree c n q f s.0 (up n (omega (arith, one_if-same n n refl))))
        (place-trees rest (n + size c) q (f + leaf_count c) s.1 (λ x le. up x (omega (arith, le))))
