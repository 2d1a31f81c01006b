-- Groups by their numbers: each stands once, and its cells stand one after another among the leaves.
use Rattle.std.proofs.Common.{◌≡◌, ℕ, zero, suc, ◌+◌, ◌<◌, false, true, Some, List, [], ◌∷◌, ◌++◌, length, refl, sym, ◌∙◌, ap, subst, arith, length-append}
use Rattle.std.specs.Prelude.{slice_get, ℤ}
use Rattle.std.specs.Str.{bytes_eq}
use Rattle.std.proofs.lemmas.Bool.{or_left, or_right, or_parts}
use Rattle.std.proofs.lemmas.List.FromFn.{length-map-range_with_len}
use Rattle.quantity.specs.Bytes.{is_among, has_repeat}
use Rattle.cell_grid.specs.Space.{cell_count}
use Rattle.model_tree.specs.declared.component.Component.{Component, Row_of-Component, end_of-Component, more_of-Component}
use Rattle.model_tree.specs.declared.component.Component.TheVariants.{Coupled', Cells, Atomic}
use Rattle.model_tree.specs.Tree.{Group, Tree, Trees, coupled, cells, atomic, nil, cons, Leaf, atomic_leaf, cell_leaf, leaf_count, leaves_from, all_leaves_from, groups, all_groups}
use Rattle.model_tree.specs.Stands.{part_of, parts_of}
use Rattle.model_tree.specs.Sound.{totals, all_totals}
use Rattle.model_leaves.proofs.Read.{leaves-length}
use Rattle.run_leaves.proofs.Places.{none-some, some-is, get-within}
use Rattle.run_leaves.proofs.Joined.{get-joined, get-left, get-right, row-get}
use Rattle.run_leaves.proofs.Once.{word-is-itself, among-left, among-right, once-left, once-right, stand-apart}

-- ---- the groups of a model, whatever the settings of its boxes

mutual
  pub groups-same : (c : Component) (s t : ℕ → List ℤ) → groups (part_of c s) ≡ groups (part_of c t)
  groups-same (Coupled' name ins outs shape children links) s t = row-same _ children s t
  groups-same (Cells g) s t = refl
  groups-same (Atomic a) s t = refl

  row-same : (n : _) (row : Row_of-Component n) (s t : ℕ → List ℤ) → all_groups (parts_of row s) ≡ all_groups (parts_of row t)
  row-same n end_of-Component s t = refl
  row-same n (more_of-Component c rest) s t =
      let here = groups-same c s t in
      let on = row-same _ rest s t in
      λ i. here i ++ on i

-- ---- each group stands once

mutual
  group-named : (t : Tree) (n : ℕ) (g : Group) → slice_get (groups t) n ≡ Some g → is_among (totals t).names g.name ≡ true
  group-named (coupled name ins outs children links) n g e =
      or_right (bytes_eq g.name name) (is_among (all_totals children).names g.name) (groups-named children n g e)
  group-named (cells h) zero g e =
      or_left (bytes_eq g.name h.name) (is_among [] g.name) (ap (λ (x : Group). bytes_eq g.name x.name) (some-is h g e) ∙ word-is-itself g.name)
  group-named (cells h) (suc n) g e = absurd (none-some e)
  group-named (atomic name class words) n g e = absurd (none-some e)

  groups-named : (ts : Trees) (n : ℕ) (g : Group) → slice_get (all_groups ts) n ≡ Some g → is_among (all_totals ts).names g.name ≡ true
  groups-named nil n g e = absurd (none-some e)
  groups-named (cons t ts) n g e =
      let ours = (totals t).names in
      let others = (all_totals ts).names in
      get-joined (is_among (ours ++ others) g.name ≡ true) (groups t) (all_groups ts) n g e (λ left. among-left ours others g.name (group-named t n g left))
      (λ j on right. among-right ours others g.name (groups-named ts j g right))

mutual
  pub group-once : (t : Tree) (m n : ℕ) (g : Group) → has_repeat (totals t).names ≡ false → slice_get (groups t) m ≡ Some g → slice_get (groups t) n ≡ Some g → m ≡ n
  group-once (coupled name ins outs children links) m n g once a b =
      groups-once children m n g (or_parts (is_among (all_totals children).names name) (has_repeat (all_totals children).names) once).1 a b
  group-once (cells h) zero zero g once a b = refl
  group-once (cells h) zero (suc n) g once a b = absurd (none-some b)
  group-once (cells h) (suc m) n g once a b = absurd (none-some a)
  group-once (atomic name class words) m n g once a b = absurd (none-some a)

  groups-once : (ts : Trees) (m n : ℕ) (g : Group) → has_repeat (all_totals ts).names ≡ false → slice_get (all_groups ts) m ≡ Some g → slice_get (all_groups ts) n ≡ Some g → m ≡ n
  groups-once nil m n g once a b = absurd (none-some a)
  groups-once (cons t ts) m n g once a b =
      let ours = (totals t).names in
      let others = (all_totals ts).names in
      get-joined (m ≡ n) (groups t) (all_groups ts) m g a
      (λ left. get-joined (m ≡ n) (groups t) (all_groups ts) n g b (λ also. group-once t m n g (once-left ours others once) left also)
      (λ k on right. absurd (stand-apart ours others g.name once (group-named t m g left) (groups-named ts k g right))))
      (λ j on right. get-joined (m ≡ n) (groups t) (all_groups ts) n g b
      (λ left. absurd (stand-apart ours others g.name once (group-named t n g left) (groups-named ts j g right)))
      (λ k there also. let same = groups-once ts j k g (once-right ours others once) right also in omega (arith, on, there, same)))

-- ---- the cells of a group

-- the first cell of each group
abbrev mutual
  firsts : Tree → ℕ → List ℕ
  firsts (coupled name ins outs children links) first = all_firsts children first
  firsts (cells g) first = first ∷ []
  firsts (atomic name class words) first = []

  all_firsts : Trees → ℕ → List ℕ
  all_firsts nil first = []
  all_firsts (cons t ts) first = firsts t first ++ all_firsts ts (first + leaf_count t)

mutual
  firsts-long : (t : Tree) (first : ℕ) → length (firsts t first) ≡ length (groups t)
  firsts-long (coupled name ins outs children links) first = all_firsts-long children first
  firsts-long (cells g) first = refl
  firsts-long (atomic name class words) first = refl

  all_firsts-long : (ts : Trees) (first : ℕ) → length (all_firsts ts first) ≡ length (all_groups ts)
  all_firsts-long nil first = refl
  all_firsts-long (cons t ts) first =
      let here = firsts-long t first in
      let on = all_firsts-long ts (first + leaf_count t) in
      length-append (firsts t first) (all_firsts ts (first + leaf_count t)) ∙ (λ i. here i + on i) ∙ sym (length-append (groups t) (all_groups ts))

-- a cell of a group among leaves that begin with a number: the group's number, the place of its first cell, and all its cells
pub record StandsInRun (ls : List Leaf) (gs : List Group) (fs : List ℕ) (low k : ℕ) (g : Group) (f c : ℕ) : Type 0 where
  pub number : ℕ
  pub of_group : slice_get gs number ≡ Some g
  pub starts : slice_get fs number ≡ Some f
  pub place : ℕ
  pub first_is : low + place ≡ f
  pub place_is : place + c ≡ k
  pub inside : c < cell_count g.space
  pub others : (j : ℕ) → j < cell_count g.space → slice_get ls (place + j) ≡ Some (cell_leaf g f j)

abbrev RunOf : List Leaf → List Group → List ℕ → ℕ → ℕ → Leaf → Type 0
RunOf ls gs fs low k (atomic_leaf name class words) = ⊥
RunOf ls gs fs low k (cell_leaf g f c) = StandsInRun ls gs fs low k g f c

group-run : (h : Group) (low k : ℕ) (x : Leaf) → slice_get (leaves_from (cells h) low) k ≡ Some x → RunOf (leaves_from (cells h) low) (h ∷ []) (low ∷ []) low k x
group-run h low k x e =
    let long = length-map-range_with_len (cell_leaf h low) 0 (cell_count h.space) in
    let within = get-within (leaves_from (cells h) low) k x e in
    let lt : k < cell_count h.space = omega (arith, long, within) in
    let there = row-get (cell_leaf h low) 0 (cell_count h.space) k k lt (omega arith) in
    subst (RunOf (leaves_from (cells h) low) (h ∷ []) (low ∷ []) low k) (some-is (cell_leaf h low k) x (sym there ∙ e))
    (record {
      number = 0;
      of_group = refl;
      starts = refl;
      place = 0;
      first_is = omega arith;
      place_is = omega arith;
      inside = lt;
      others = λ j below. row-get (cell_leaf h low) 0 (cell_count h.space) (0 + j) j (omega (arith, below)) (omega arith);
    })

run-left : (ls ms : List Leaf) (gs hs : List Group) (fs es : List ℕ) (low k : ℕ) (g : Group) (f c : ℕ) → StandsInRun ls gs fs low k g f c → StandsInRun (ls ++ ms) (gs ++ hs) (fs ++ es) low k g f c
run-left ls ms gs hs fs es low k g f c r =
    record {
      number = r.number;
      of_group = get-left gs hs r.number g r.of_group;
      starts = get-left fs es r.number f r.starts;
      place = r.place;
      first_is = r.first_is;
      place_is = r.place_is;
      inside = r.inside;
      others = λ j below. get-left ls ms (r.place + j) (cell_leaf g f j) (r.others j below);
    }

run-right : (ls ms : List Leaf) (gs hs : List Group) (fs es : List ℕ) (low n k j : ℕ) (g : Group) (f c : ℕ) → length ls ≡ n → length fs ≡ length gs → n + j ≡ k → StandsInRun ms hs es (low + n) j g f c
    → StandsInRun (ls ++ ms) (gs ++ hs) (fs ++ es) low k g f c
run-right ls ms gs hs fs es low n k j g f c long same on r =
    record {
      number = length gs + r.number;
      of_group = get-right gs hs r.number (length gs + r.number) g refl r.of_group;
      starts = get-right fs es r.number (length gs + r.number) f (ap (λ m. m + r.number) same) r.starts;
      place = n + r.place;
      first_is = let at = r.first_is in omega (arith, at);
      place_is = let at = r.place_is in omega (arith, at, on);
      inside = r.inside;
      others = λ i below. get-right ls ms (r.place + i) ((n + r.place) + i) (cell_leaf g f i) (omega (arith, long)) (r.others i below);
    }

mutual
  pub in-run : (t : Tree) (low k : ℕ) (g : Group) (f c : ℕ) → slice_get (leaves_from t low) k ≡ Some (cell_leaf g f c) → StandsInRun (leaves_from t low) (groups t) (firsts t low) low k g f c
  in-run (coupled name ins outs children links) low k g f c e = in-runs children low k g f c e
  in-run (cells h) low k g f c e = group-run h low k (cell_leaf g f c) e
  in-run (atomic name class words) low zero g f c e = absurd cc
  in-run (atomic name class words) low (suc k) g f c e = absurd (none-some e)

  in-runs : (ts : Trees) (low k : ℕ) (g : Group) (f c : ℕ) → slice_get (all_leaves_from ts low) k ≡ Some (cell_leaf g f c) → StandsInRun (all_leaves_from ts low) (all_groups ts) (all_firsts ts low) low k g f c
  in-runs nil low k g f c e = absurd (none-some e)
  in-runs (cons t ts) low k g f c e =
      let ls = leaves_from t low in
      let ms = all_leaves_from ts (low + leaf_count t) in
      let fs = firsts t low in
      let es = all_firsts ts (low + leaf_count t) in
      let long = leaves-length t low in
      get-joined (StandsInRun (ls ++ ms) (groups t ++ all_groups ts) (fs ++ es) low k g f c) ls ms k (cell_leaf g f c) e
      (λ left. run-left ls ms (groups t) (all_groups ts) fs es low k g f c (in-run t low k g f c left))
      (λ j on right. run-right ls ms (groups t) (all_groups ts) fs es low (leaf_count t) k j g f c long (firsts-long t low) (omega (arith, on, long)) (in-runs ts (low + leaf_count t) j g f c right))

-- where each name stands once, a group's cells have one first cell
pub first-once : (t : Tree) → has_repeat (totals t).names ≡ false → (low j k : ℕ) (g : Group) (a b c d : ℕ) → slice_get (leaves_from t low) j ≡ Some (cell_leaf g a c) → slice_get (leaves_from t low) k ≡ Some (cell_leaf g b d) → a ≡ b
first-once t once low j k g a b c d at there =
    let r = in-run t low j g a c at in
    let s = in-run t low k g b d there in
    let same = group-once t r.number s.number g once r.of_group s.of_group in
    some-is a b (sym r.starts ∙ ap (slice_get (firsts t low)) same ∙ s.starts)
