-- A move takes no more visits than two and the most offsets of a group.
use Rattle.std.proofs.Common.{◌≡◌, ℕ, zero, suc, ◌+◌, ◌≤◌, Option, Some, None, List, [], ◌∷◌, ◌++◌, map, length, refl, ap, arith}
use Rattle.std.specs.Prelude.{slice_get, ℤ}
use Rattle.std.specs.List.{range_with_len}
use Rattle.cell_grid.specs.Space.{cell_count}
use Rattle.model_leaves.specs.declared.leaves.LeafAt.{LeafAt}
use Rattle.model_leaves.specs.declared.leaves.LeafAt.TheVariants.{Atomic, Cell}
use Rattle.model_tree.specs.Tree.{Group, Tree, Trees, coupled, cells, atomic, nil, cons, Leaf, atomic_leaf, cell_leaf, leaf_count, leaves_from, all_leaves_from, groups, all_groups}
use Rattle.run_model.specs.Visits.{most_offsets}
use Rattle.cell_engine.specs.Layout.{Layout}
use Rattle.run_leaves.specs.Seated.{visits_in, visits_there, Places}
use Rattle.run_leaves.proofs.Places.{none-some, some-is}

most-left : (a b : List Group) → most_offsets a ≤ most_offsets (a ++ b)
most-left [] b = omega arith
most-left (g ∷ gs) b = let on = most-left gs b in omega (arith, on)

most-right : (a b : List Group) → most_offsets b ≤ most_offsets (a ++ b)
most-right [] b = omega arith
most-right (g ∷ gs) b = let on = most-right gs b in omega (arith, on)

get-split : {A : Type 0} (P : Type 0) (xs ys : List A) (k : ℕ) (x : A) → slice_get (xs ++ ys) k ≡ Some x → ((j : ℕ) → slice_get xs j ≡ Some x → P) → ((j : ℕ) → slice_get ys j ≡ Some x → P) → P
get-split P [] ys k x e left right = right k e
get-split P (a ∷ xs) ys zero x e left right = left 0 e
get-split P (a ∷ xs) ys (suc k) x e left right = get-split P xs ys k x e (λ j at. left (suc j) at) right

of-group : (h g : Group) (first f c : ℕ) (xs : List ℕ) (k : ℕ) → slice_get (map (cell_leaf h first) xs) k ≡ Some (cell_leaf g f c) → h ≡ g
of-group h g first f c [] k e = absurd (none-some e)
of-group h g first f c (x ∷ xs) zero e = ap group_in (some-is (cell_leaf h first x) (cell_leaf g f c) e)
  where
    group_in : Leaf → Group
    group_in (atomic_leaf name class words) = h
    group_in (cell_leaf i first n) = i
of-group h g first f c (x ∷ xs) (suc k) e = of-group h g first f c xs k e

mutual
  leaf-short : (t : Tree) (first k : ℕ) (g : Group) (f c : ℕ) → slice_get (leaves_from t first) k ≡ Some (cell_leaf g f c) → length g.offsets ≤ most_offsets (groups t)
  leaf-short (coupled name ins outs children links) first k g f c e = all-short children first k g f c e
  leaf-short (cells h) first k g f c e =
      let same = ap (λ (x : Group). length x.offsets) (of-group h g first f c (range_with_len 0 (cell_count h.space)) k e) in
      omega (arith, same)
  leaf-short (atomic name class words) first zero g f c e = absurd cc
  leaf-short (atomic name class words) first (suc k) g f c e = absurd (none-some e)

  all-short : (ts : Trees) (first k : ℕ) (g : Group) (f c : ℕ) → slice_get (all_leaves_from ts first) k ≡ Some (cell_leaf g f c) → length g.offsets ≤ most_offsets (all_groups ts)
  all-short nil first k g f c e = absurd (none-some e)
  all-short (cons t ts) first k g f c e =
      let here = most-left (groups t) (all_groups ts) in
      let there = most-right (groups t) (all_groups ts) in
      get-split (length g.offsets ≤ most_offsets (groups t ++ all_groups ts)) (leaves_from t first) (all_leaves_from ts (first + leaf_count t)) k (cell_leaf g f c) e
      (λ j at. let one = leaf-short t first j g f c at in omega (arith, one, here))
      (λ j at. let more = all-short ts (first + leaf_count t) j g f c at in omega (arith, more, there))

pub short : (tree : Tree) (seats : List LeafAt) (settings : List (List ℤ)) (layouts : List Layout) (sizes : List ℕ) → Places tree seats settings layouts sizes → (l : ℕ) → visits_there layouts (slice_get seats l) ≤ most_offsets (groups tree) + 2
short tree seats settings layouts sizes places l = by (slice_get seats l) refl
  where
    by : (o : Option LeafAt) → slice_get seats l ≡ o → visits_there layouts o ≤ most_offsets (groups tree) + 2
    by None e = omega arith
    by (Some (Atomic at)) e = omega arith
    by (Some (Cell store cell)) e =
        let place = places.cells l store cell e in
        let near = leaf-short tree 0 l place.group place.first cell place.leaf in
        let offsets = ap length place.stands.offsets in
        let visits : visits_in (slice_get layouts store) ≡ length place.layout.offsets + 2 = ap visits_in place.kept in
        omega (arith, near, offsets, visits)
