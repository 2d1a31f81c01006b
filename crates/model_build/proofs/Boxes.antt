-- From the boxes of components to those of leaves.
use Rattle.std.proofs.Common.{◌≡◌, ℕ, zero, suc, ◌+◌, true, not, ◌==◌, Option, Some, None, List, [], ◌∷◌, ◌++◌, map, length, refl, sym, ap, ◌∙◌, ℤ, pos, slice_get}
use Rattle.std.specs.List.{filter_map, list_any, range_with_len}
use Rattle.std.specs.Option.{option_map}
use Rattle.std.proofs.lemmas.Bool.{and_parts, or_left, or_right, not-true, eq-eqb, both_ways}
use Rattle.std.proofs.lemmas.List.{map-append}
use Rattle.std.proofs.lemmas.List.Elements.{filter_map-append}
use Rattle.std.proofs.lemmas.Option.{some_pair_parts}
use Rattle.quantity.specs.declared.value.Value.{Value}
use Rattle.cell_grid.specs.Space.{cell_count}
use Rattle.atomic_face.specs.BoxCalls.{box_at_start}
use Rattle.atomic_face.specs.StockView.{Stocked}
use Rattle.atomic_face.specs.declared.class.Class.{Class}
use Rattle.atomic_face.specs.declared.stock.BoxNo.{BoxNo}
use Rattle.model_tree.specs.declared.component.Coupled.{Coupled}
use Rattle.model_tree.specs.declared.component.Component.{Component, Row_of-Component, end_of-Component, more_of-Component}
use Rattle.model_tree.specs.declared.component.Component.TheVariants.{Coupled as in_tree, Coupled', Cells, Atomic as atomic_in_tree}
use Rattle.model_tree.specs.declared.group.Atomic.{Atomic}
use Rattle.model_leaves.specs.declared.leaves.LeafAt.TheVariants as at
use Rattle.model_leaves.specs.declared.table.Model.{Model}
use Rattle.model_tree.specs.Tree.{Group, Leaf, atomic_leaf, cell_leaf, leaf_count, leaves, leaves_from, all_leaves_from, groups}
use Rattle.model_leaves.specs.Laid.{laid_from, all_laid_from}
use Rattle.model_leaves.specs.Leaves.{Settings, no_settings, IsLeafOf, IsPlaceOf, HasBox}
use Rattle.model_leaves.specs.Models.{tree_of}
use Rattle.model_tree.specs.Stands.{part_of, parts_of}
use Rattle.model_leaves.proofs.Read.{leaf-there}
use Rattle.model_build.specs.Settled.{are_apart}
use Rattle.model_build.specs.Boxes.{settings_of_stock, atomics_in, all_atomics_in, HasBoxes, StartedAs}
use Rattle.model_build.specs.Laws.{BoxesAreStanding}

-- ---- the component of each leaf, None for a cell

abbrev mutual
  seats : Component → List (Option Atomic)
  seats (Coupled' name ins outs shape children links) = all_seats children
  seats (Cells g) = map (λ n. None) (range_with_len 0 (cell_count g.grid))
  seats (atomic_in_tree a) = Some a ∷ []

  all_seats : {k : _} → Row_of-Component k → List (Option Atomic)
  all_seats end_of-Component = []
  all_seats (more_of-Component c rest) = seats c ++ all_seats rest

-- what is told of a seat under these settings, and of a leaf: class and settings
abbrev seat_told : Settings → Option Atomic → Option (Class × List ℤ)
seat_told s o = option_map (λ (a : Atomic). (a.class, s a.at.0)) o

abbrev leaf_told : Leaf → Option (Class × List ℤ)
leaf_told (cell_leaf g first n) = None
leaf_told (atomic_leaf name class words) = Some (class, words)

cells_told : (s : Settings) (g : Group) (first : ℕ) (ns : List ℕ) → map leaf_told (map (cell_leaf g first) ns) ≡ map (seat_told s) (map (λ n. None) ns)
cells_told s g first [] = refl
cells_told s g first (n ∷ ns) = ap (λ os. None ∷ os) (cells_told s g first ns)

mutual
  seated : (c : Component) (s : Settings) (number : ℕ) (values : List (List Value)) (first : ℕ) → map leaf_told (leaves_from (laid_from (part_of c s) number values) first) ≡ map (seat_told s) (seats c)
  seated (Coupled' name ins outs shape children links) s number values first = all_seated _ children s number values first
  seated (Cells g) s number values first = cells_told s _ first (range_with_len 0 (cell_count g.grid))
  seated (atomic_in_tree a) s number values first = refl

  all_seated : (k : _) (row : Row_of-Component k) (s : Settings) (number : ℕ) (values : List (List Value)) (first : ℕ) → map leaf_told (all_leaves_from (all_laid_from (parts_of row s) number values) first) ≡ map (seat_told s) (all_seats row)
  all_seated k end_of-Component s number values first = refl
  all_seated k (more_of-Component c rest) s number values first =
      let behind = first + leaf_count (laid_from (part_of c s) number values) in
      let next = number + length (groups (part_of c s)) in
      map-append leaf_told (leaves_from (laid_from (part_of c s) number values) first) (all_leaves_from (all_laid_from (parts_of rest s) next values) behind)
      ∙ (λ i. seated c s number values first i ++ all_seated _ rest s next values behind i) ∙ sym (map-append (seat_told s) (seats c) (all_seats rest))

-- ---- by the number of a leaf

-- in lists that are told alike what stands at one place is told alike
same_at : {A B C : Type 0} (f : A → C) (g : B → C) (xs : List A) (ys : List B) (k : ℕ) (x : A) → map f xs ≡ map g ys → slice_get xs k ≡ Some x → (y : B) × (slice_get ys k ≡ Some y) × (f x ≡ g y)
same_at f g [] ys k x e at = absurd cc
same_at f g (z ∷ xs) [] k x e at = absurd cc
same_at f g (z ∷ xs) (w ∷ ys) zero x e at = let same : z ≡ x = cc in let told : f z ≡ g w = cc in (w, refl, ap f (sym same) ∙ told)
same_at f g (z ∷ xs) (w ∷ ys) (suc k) x e at = same_at f g xs ys k x (cc) at

-- ---- the components among the seats

abbrev there : Option Atomic → Option Atomic
there o = o

none_there : (ns : List ℕ) → filter_map there (map (λ n. None) ns) ≡ []
none_there [] = refl
none_there (n ∷ ns) = none_there ns

mutual
  atomics_are : (c : Component) → filter_map there (seats c) ≡ atomics_in c
  atomics_are (Coupled' name ins outs shape children links) = all_atomics_are _ children
  atomics_are (Cells g) = none_there (range_with_len 0 (cell_count g.grid))
  atomics_are (atomic_in_tree a) = refl

  all_atomics_are : (k : _) (row : Row_of-Component k) → filter_map there (all_seats row) ≡ all_atomics_in row
  all_atomics_are k end_of-Component = refl
  all_atomics_are k (more_of-Component c rest) = filter_map-append there (seats c) (all_seats rest) ∙ (λ i. atomics_are c i ++ all_atomics_are _ rest i)

-- ---- boxes of their own

abbrev number_of : Atomic → ℕ
number_of a = a.at.0

-- the number of a component that stands among these
stands_among : (xs : List (Option Atomic)) (k : ℕ) (a : Atomic) (n : ℕ) → slice_get xs k ≡ Some (Some a) → n ≡ a.at.0 → list_any (λ m. n == m) (map number_of (filter_map there xs)) ≡ true
stands_among [] k a n e same = absurd cc
stands_among (None ∷ xs) zero a n e same = absurd cc
stands_among (None ∷ xs) (suc k) a n e same = stands_among xs k a n e same
stands_among (Some x ∷ xs) zero a n e same =
    let is : x ≡ a = cc in
    or_left (n == x.at.0) (list_any (λ m. n == m) (map number_of (filter_map there xs))) (eq-eqb n x.at.0 (same ∙ ap number_of (sym is)))
stands_among (Some x ∷ xs) (suc k) a n e same = or_right (n == x.at.0) (list_any (λ m. n == m) (map number_of (filter_map there xs))) (stands_among xs k a n e same)

-- where the first component's number stands again, the numbers are not apart
not_apart : (x : Atomic) (xs : List (Option Atomic)) (k : ℕ) (a : Atomic) → slice_get xs k ≡ Some (Some a) → x.at.0 ≡ a.at.0 → are_apart (map number_of (filter_map there (Some x ∷ xs))) ≡ true → ⊥
not_apart x xs k a e same apart =
    let among = list_any (λ m. x.at.0 == m) (map number_of (filter_map there xs)) in
    both_ways among (not-true among (and_parts (not among) (are_apart (map number_of (filter_map there xs))) apart).0) (stands_among xs k a x.at.0 e same)

one_seat : (xs : List (Option Atomic)) (j k : ℕ) (a b : Atomic) → slice_get xs j ≡ Some (Some a) → slice_get xs k ≡ Some (Some b) → a.at.0 ≡ b.at.0 → are_apart (map number_of (filter_map there xs)) ≡ true → j ≡ k
one_seat [] j k a b e f same apart = absurd cc
one_seat (o ∷ xs) zero zero a b e f same apart = refl
one_seat (None ∷ xs) zero (suc k) a b e f same apart = absurd cc
one_seat (None ∷ xs) (suc j) zero a b e f same apart = absurd cc
one_seat (None ∷ xs) (suc j) (suc k) a b e f same apart = ap suc (one_seat xs j k a b e f same apart)
one_seat (Some x ∷ xs) zero (suc k) a b e f same apart = let is : x ≡ a = cc in absurd (not_apart x xs k b f (ap number_of is ∙ same) apart)
one_seat (Some x ∷ xs) (suc j) zero a b e f same apart = let is : x ≡ b = cc in absurd (not_apart x xs j a e (ap number_of is ∙ sym same) apart)
one_seat (Some x ∷ xs) (suc j) (suc k) a b e f same apart =
    ap suc (one_seat xs j k a b e f same (and_parts (not (list_any (λ m. x.at.0 == m) (map number_of (filter_map there xs)))) (are_apart (map number_of (filter_map there xs))) apart).1)

-- a component that stands among the seats stands among the components
atomic_at : (xs : List (Option Atomic)) (k : ℕ) (a : Atomic) → slice_get xs k ≡ Some (Some a) → (n : ℕ) × (slice_get (filter_map there xs) n ≡ Some a)
atomic_at [] k a e = absurd cc
atomic_at (None ∷ xs) zero a e = absurd cc
atomic_at (None ∷ xs) (suc k) a e = atomic_at xs k a e
atomic_at (Some x ∷ xs) zero a e = (0, cc)
atomic_at (Some x ∷ xs) (suc k) a e = let p = atomic_at xs k a e in (suc p.0, p.1)

-- ---- the boxes of leaves

-- settings that tell one box from another
abbrev numbered : Settings
numbered n = pos n ∷ []

same_numbered : (m n : ℕ) → numbered m ≡ numbered n → m ≡ n
same_numbered m n e = cc

module _ (stock : List Stocked) (top : Coupled) (m : Model) (values : List (List Value)) (boxes : HasBoxes stock top) (is : (s : Settings) → tree_of m s ≡ laid_from (part_of (in_tree top) s) 0 values) where
  all : List (Option Atomic)
  all = seats (in_tree top)

  told : (s : Settings) → map leaf_told (leaves (tree_of m s)) ≡ map (seat_told s) all
  unfolding all
  told s = ap (λ t. map leaf_told (leaves t)) (is s) ∙ seated (in_tree top) s 0 values 0

  are_atomics : filter_map there all ≡ atomics_in (in_tree top)
  unfolding all
  are_atomics = atomics_are (in_tree top)

  -- the seat of a leaf that stands in this box is that of its component
  seat_of : (leaf : ℕ) (box : BoxNo) → IsLeafOf m leaf → IsPlaceOf m leaf (at.Atomic box) → (a : Atomic) × (slice_get all leaf ≡ Some (Some a)) × (a.at.0 ≡ box.0)
  seat_of leaf box within place =
      let l = leaf-there m leaf within in
      let o = same_at leaf_told (seat_told no_settings) (leaves (tree_of m no_settings)) all leaf l.0 (told no_settings) l.1 in
      let n = same_at (seat_told numbered) leaf_told all (leaves (tree_of m numbered)) leaf o.0 (sym (told numbered)) o.1 in
      let a = boxed o.0 n.0 n.2 (place numbered n.0 n.1) in
      (a.0, o.1 ∙ ap Some a.1, a.2)
    where
      boxed : (o : Option Atomic) (l : Leaf) → seat_told numbered o ≡ leaf_told l → HasBox (numbered box.0) l → (a : Atomic) × (o ≡ Some a) × (a.at.0 ≡ box.0)
      boxed o (cell_leaf g first n) seat has = absurd has
      boxed None (atomic_leaf name class words) seat has = absurd cc
      boxed (Some a) (atomic_leaf name class words) seat has = (a, refl, same_numbered a.at.0 box.0 ((some_pair_parts a.class class (numbered a.at.0) words seat).1 ∙ has))

  started_in : (leaf : ℕ) (box : BoxNo) (l : Leaf) → IsLeafOf m leaf → IsPlaceOf m leaf (at.Atomic box) → slice_get (leaves (tree_of m (settings_of_stock stock))) leaf ≡ Some l → StartedAs (slice_get stock box.0) l
  started_in leaf box l within place e =
      let s = settings_of_stock stock in
      let o = same_at leaf_told (seat_told s) (leaves (tree_of m s)) all leaf l (told s) e in
      let a = seat_of leaf box within place in
      let number = atomic_at all leaf a.0 a.1 in
      let found = boxes.started number.0 a.0 (ap (λ xs. slice_get xs number.0) (sym are_atomics) ∙ number.1) in
      let same : Some o.0 ≡ Some (Some a.0) = sym o.1 ∙ a.1 in
      let seat : o.0 ≡ Some a.0 = cc in
      started a.0 l (o.2 ∙ ap (seat_told s) seat) (ap (slice_get stock) (sym a.2) ∙ found)
    where
      started : (a : Atomic) (l : Leaf) → leaf_told l ≡ Some (a.class, settings_of_stock stock a.at.0) → slice_get stock box.0 ≡ Some (record { box = box_at_start a.class (settings_of_stock stock a.at.0); taken = true }) → StartedAs (slice_get stock box.0) l
      started a (cell_leaf g first n) seat found = absurd cc
      started a (atomic_leaf name class words) seat found =
          let same = some_pair_parts class a.class words (settings_of_stock stock a.at.0) seat in
          rw found (λ k. record { box = box_at_start (sym same.0 k) (sym same.1 k); taken = true })

pub boxes_are_standing : BoxesAreStanding
boxes_are_standing stock top m values boxes is =
    record {
      started = λ leaf box l within place e. started_in stock top m values boxes is leaf box l within place e;
      apart = λ j k box a b p q.
          let x = seat_of stock top m values boxes is j box a p in
          let y = seat_of stock top m values boxes is k box b q in
          one_seat (all stock top m values boxes is) j k x.0 y.0 x.1 y.1 (x.2 ∙ sym y.2)
          (ap (λ xs. are_apart (map number_of xs)) (are_atomics stock top m values boxes is) ∙ boxes.apart);
    }
