-- The cells of a group are leaves one after another.
use Rattle.std.proofs.Common.{◌≡◌, ℕ, zero, suc, ◌+◌, ◌-◌, ◌<◌, ◌≤◌, Some, List, [], ◌∷◌, ◌++◌, map, length, ◌⊎◌, inl, inr, sym, ◌∙◌, ap, subst, arith}
use Rattle.std.specs.Prelude.{slice_get}
use Rattle.std.specs.List.{range_with_len}
use Rattle.std.proofs.lemmas.List.FromFn.{length-map-range_with_len}
use Rattle.cell_grid.specs.Space.{cell_count}
use Rattle.model_tree.specs.Tree.{Group, Tree, Trees, coupled, cells, atomic, nil, cons, Leaf, atomic_leaf, cell_leaf, leaf_count, leaves_from, all_leaves_from, leaves}
use Rattle.model_leaves.proofs.Read.{leaves-length}
use Rattle.run_leaves.proofs.Places.{none-some, some-is, get-within}

-- ---- lists one after another

pub get-left : {A : Type 0} (xs ys : List A) (k : ℕ) (x : A) → slice_get xs k ≡ Some x → slice_get (xs ++ ys) k ≡ Some x
get-left [] ys k x e = absurd (none-some e)
get-left (a ∷ xs) ys zero x e = e
get-left (a ∷ xs) ys (suc k) x e = get-left xs ys k x e

pub get-right : {A : Type 0} (xs ys : List A) (k : ℕ) → slice_get (xs ++ ys) (length xs + k) ≡ slice_get ys k
get-right [] ys k = ap (slice_get ys) (none k)
  where
    none : (k : ℕ) → 0 + k ≡ k
    none k = omega arith
get-right (a ∷ xs) ys k = ap (slice_get (a ∷ (xs ++ ys))) (one (length xs) k) ∙ get-right xs ys k
  where
    one : (n k : ℕ) → suc n + k ≡ suc (n + k)
    one n k = omega arith

pub get-either : {A : Type 0} (xs ys : List A) (k : ℕ) (x : A) → slice_get (xs ++ ys) k ≡ Some x → (slice_get xs k ≡ Some x) ⊎ ((j : ℕ) × (length xs + j ≡ k) × (slice_get ys j ≡ Some x))
get-either [] ys k x e = inr (k, omega arith, e)
get-either (a ∷ xs) ys zero x e = inl e
get-either (a ∷ xs) ys (suc k) x e =
    elim (get-either xs ys k x e) [ inl here ↦ inl here | inr there ↦ inr (there.0, (let is = there.1 in omega (arith, is)), there.2) ]

-- ---- the cells of one group

cell-at : (g : Group) (first a n k : ℕ) → k < n → slice_get (map (cell_leaf g first) (range_with_len a n)) k ≡ Some (cell_leaf g first (a + k))
cell-at g first a zero k lt = absurd (omega (arith, lt))
cell-at g first a (suc n) zero lt = ap (λ (c : ℕ). Some (cell_leaf g first c)) (none a)
  where
    none : (a : ℕ) → a ≡ a + 0
    none a = omega arith
cell-at g first a (suc n) (suc k) lt = cell-at g first (a + 1) n k (omega (arith, lt)) ∙ ap (λ (c : ℕ). Some (cell_leaf g first c)) (one a k)
  where
    one : (a k : ℕ) → (a + 1) + k ≡ a + suc k
    one a k = omega arith

-- ---- each cell's group

-- among leaves of which the first has the number `start`, the group of a cell stands whole
record IsInGroup (ls : List Leaf) (start k : ℕ) (g : Group) (first cell : ℕ) : Type 0 where
  off : ℕ
  begins : start + off ≡ first
  number : off + cell ≡ k
  inside : cell < cell_count g.space
  others : (j : ℕ) → j < cell_count g.space → slice_get ls (off + j) ≡ Some (cell_leaf g first j)

abbrev IsWhole : List Leaf → ℕ → ℕ → Leaf → Type 0
IsWhole ls start k (atomic_leaf name class settings) = Unit {0}
IsWhole ls start k (cell_leaf g first cell) = IsInGroup ls start k g first cell

whole-left : (xs ys : List Leaf) (start k : ℕ) (l : Leaf) → IsWhole xs start k l → IsWhole (xs ++ ys) start k l
whole-left xs ys start k (atomic_leaf name class settings) w = tt
whole-left xs ys start k (cell_leaf g first cell) w = record {
  off = w.off;
  begins = w.begins;
  number = w.number;
  inside = w.inside;
  others = λ j lt. get-left xs ys (w.off + j) (cell_leaf g first j) (w.others j lt);
}

whole-right : (xs ys : List Leaf) (start j k : ℕ) (l : Leaf) → length xs + j ≡ k → IsWhole ys (start + length xs) j l → IsWhole (xs ++ ys) start k l
whole-right xs ys start j k (atomic_leaf name class settings) is w = tt
whole-right xs ys start j k (cell_leaf g first cell) is w = record {
  off = length xs + w.off;
  begins = let b = w.begins in omega (arith, b);
  number = let n = w.number in omega (arith, n, is);
  inside = w.inside;
  others = λ i lt. ap (slice_get (xs ++ ys)) (regroup (length xs) w.off i) ∙ get-right xs ys (w.off + i) ∙ w.others i lt;
}
  where
    regroup : (n off i : ℕ) → (n + off) + i ≡ n + (off + i)
    regroup n off i = omega arith

mutual
  whole-leaf : (t : Tree) (start k : ℕ) (l : Leaf) → slice_get (leaves_from t start) k ≡ Some l → IsWhole (leaves_from t start) start k l
  whole-leaf (coupled name ins outs children links) start k l e = whole-all children start k l e
  whole-leaf (cells g) start k l e =
      let n = cell_count g.space in
      let ls = map (cell_leaf g start) (range_with_len 0 n) in
      let long : length ls ≡ n = length-map-range_with_len (cell_leaf g start) 0 n in
      let within : k < length ls = get-within ls k l e in
      let lt : k < n = omega (arith, within, long) in
      let same : cell_leaf g start (0 + k) ≡ l = some-is (cell_leaf g start (0 + k)) l (sym (cell-at g start 0 n k lt) ∙ e) in
      let here : IsInGroup ls start k g start (0 + k) = record {
        off = 0;
        begins = none start;
        number = zeros k;
        inside = omega (arith, lt);
        others = λ j less. ap (slice_get ls) (from-zero j) ∙ cell-at g start 0 n j less ∙ ap (λ (c : ℕ). Some (cell_leaf g start c)) (from-zero j);
      } in
      subst (IsWhole ls start k) same here
    where
      none : (s : ℕ) → s + 0 ≡ s
      none s = omega arith

      zeros : (k : ℕ) → 0 + (0 + k) ≡ k
      zeros k = omega arith

      from-zero : (j : ℕ) → 0 + j ≡ j
      from-zero j = omega arith
  whole-leaf (atomic name class settings) start zero l e = subst (IsWhole (atomic_leaf name class settings ∷ []) start 0) (some-is (atomic_leaf name class settings) l e) tt
  whole-leaf (atomic name class settings) start (suc k) l e = absurd (none-some e)

  whole-all : (ts : Trees) (start k : ℕ) (l : Leaf) → slice_get (all_leaves_from ts start) k ≡ Some l → IsWhole (all_leaves_from ts start) start k l
  whole-all nil start k l e = absurd (none-some e)
  whole-all (cons t ts) start k l e =
      let xs = leaves_from t start in
      let ys = all_leaves_from ts (start + leaf_count t) in
      elim (get-either xs ys k l e) [
        | inl here ↦ whole-left xs ys start k l (whole-leaf t start k l here)
        | inr there ↦ whole-right xs ys start there.0 k l there.1
            (subst (λ (n : ℕ). IsWhole ys (start + n) there.0 l) (sym (leaves-length t start)) (whole-all ts (start + leaf_count t) there.0 l there.2))
      ]

-- ---- in a tree

-- the group of a cell that is the leaf of this number
pub record StandsInGroup (tree : Tree) (k : ℕ) (g : Group) (first cell : ℕ) : Type 0 where
  pub number : first + cell ≡ k
  pub inside : cell < cell_count g.space
  pub short : first + cell_count g.space ≤ leaf_count tree
  pub others : (j : ℕ) → j < cell_count g.space → slice_get (leaves tree) (first + j) ≡ Some (cell_leaf g first j)

pub stands-in-group : (tree : Tree) (k : ℕ) (g : Group) (first cell : ℕ) → slice_get (leaves tree) k ≡ Some (cell_leaf g first cell) → StandsInGroup tree k g first cell
stands-in-group tree k g first cell e =
    let w : IsInGroup (leaves tree) 0 k g first cell = whole-leaf tree 0 k (cell_leaf g first cell) e in
    let n = cell_count g.space in
    let begins : w.off ≡ first = (let b = w.begins in omega (arith, b)) in
    let some : 0 < n = (let lt = w.inside in omega (arith, lt)) in
    let last : w.off + (n - 1) < length (leaves tree) = get-within (leaves tree) (w.off + (n - 1)) (cell_leaf g first (n - 1)) (w.others (n - 1) (omega (arith, some))) in
    record {
      number = let is = w.number in omega (arith, is, begins);
      inside = w.inside;
      short = let long = leaves-length tree 0 in omega (arith, last, long, begins, some);
      others = λ j lt. ap (λ (o : ℕ). slice_get (leaves tree) (o + j)) (sym begins) ∙ w.others j lt;
    }

-- the leaf before a further cell
pub before-cell : (tree : Tree) (k : ℕ) (g : Group) (first cell : ℕ) → slice_get (leaves tree) k ≡ Some (cell_leaf g first cell) → 0 < cell → slice_get (leaves tree) (k - 1) ≡ Some (cell_leaf g first (cell - 1))
before-cell tree k g first cell e some =
    let s = stands-in-group tree k g first cell e in
    let number = s.number in
    let inside = s.inside in
    let back : k - 1 ≡ first + (cell - 1) = omega (arith, number, some) in
    ap (slice_get (leaves tree)) back ∙ s.others (cell - 1) (omega (arith, inside, some))
