-- The group whose frames are drawn: leaves one after another.
use Rattle.std.proofs.Common.{◌≡◌, ℕ, zero, suc, ◌+◌, ◌-◌, ◌<◌, ◌≤◌, Bool, true, false, cond, Option, Some, None, List, [], ◌∷◌, ◌++◌, length, map, drop, get_or, refl, sym, ap, ◌∙◌, subst, arith}
use Rattle.std.specs.Prelude.{⊤, ℤ, slice_get, nat_eq, not}
use Rattle.std.specs.Option.{option_eq}
use Rattle.std.proofs.lemmas.Bool.Decides.{nat_tests}
use Rattle.std.specs.List.{range_with_len}
use Rattle.std.specs.Str.{bytes_eq}
use Rattle.std.proofs.lemmas.Option.{slice_get_within, slice_get-get_or}
use Rattle.std.proofs.Math.Seq.{drop-length}
use Rattle.atomic_face.specs.declared.class.Class.TheVariants.{Queue}
use Rattle.cell_grid.specs.Space.{cell_count}
use Rattle.model_tree.specs.Tree.{Word, Group, Tree, Trees, coupled, cells, atomic, nil, cons, Leaf, atomic_leaf, cell_leaf, leaf_count, leaves_from, all_leaves_from, leaves, groups}
use Rattle.model_leaves.specs.Leaves.{HasBox, IsCellIn}
use Rattle.model_leaves.proofs.Read.{leaves-length}
use Rattle.answer_model.specs.RunFiles.{group_at}
use Rattle.asked_words.specs.declared.group.GroupAt.{GroupAt}
use Rattle.asked_words.specs.Group.{IsGroup}
use Rattle.model_read.specs.Group.{IsCellOf, IsNoCellOf}

-- ---- the number of a cell's leaf

-- a cell's leaf is as far behind the leaf of its group's first cell as the cell is behind that
abbrev pub IsNumbered : ℕ → Leaf → Type 0
IsNumbered k (atomic_leaf name class settings) = ⊤
IsNumbered k (cell_leaf g first cell) = first + cell ≡ k

abbrev AreNumbered : ℕ → List Leaf → Type 0
AreNumbered k [] = ⊤
AreNumbered k (l ∷ ls) = IsNumbered k l × AreNumbered (k + 1) ls

numbered_append : (k : ℕ) (xs ys : List Leaf) → AreNumbered k xs → AreNumbered (k + length xs) ys → AreNumbered k (xs ++ ys)
numbered_append k [] ys a b = subst (λ (n : ℕ). AreNumbered n ys) (none k) b
  where
    none : (k : ℕ) → k + 0 ≡ k
    none k = omega arith
numbered_append k (x ∷ xs) ys a b = (a.0, numbered_append (k + 1) xs ys a.1 (subst (λ (n : ℕ). AreNumbered n ys) (one k (length xs)) b))
  where
    one : (k n : ℕ) → k + suc n ≡ (k + 1) + n
    one k n = omega arith

cells_numbered : (g : Group) (first a n : ℕ) → AreNumbered (first + a) (map (cell_leaf g first) (range_with_len a n))
cells_numbered g first a zero = tt
cells_numbered g first a (suc n) =
    (refl, subst (λ (k : ℕ). AreNumbered k (map (cell_leaf g first) (range_with_len (a + 1) n))) (one first a) (cells_numbered g first (a + 1) n))
  where
    one : (b a : ℕ) → b + (a + 1) ≡ (b + a) + 1
    one b a = omega arith

zero_more : (k : ℕ) → k + 0 ≡ k
zero_more k = omega arith

mutual
  leaves_numbered : (t : Tree) (first : ℕ) → AreNumbered first (leaves_from t first)
  leaves_numbered (coupled name ins outs children links) first = all_numbered children first
  leaves_numbered (cells g) first =
      subst (λ (k : ℕ). AreNumbered k (map (cell_leaf g first) (range_with_len 0 (cell_count g.space)))) (zero_more first) (cells_numbered g first 0 (cell_count g.space))
  leaves_numbered (atomic name class settings) first = (tt, tt)

  all_numbered : (ts : Trees) (first : ℕ) → AreNumbered first (all_leaves_from ts first)
  all_numbered nil first = tt
  all_numbered (cons c rest) first =
      numbered_append first (leaves_from c first) (all_leaves_from rest (first + leaf_count c)) (leaves_numbered c first)
      (subst (λ (n : ℕ). AreNumbered (first + n) (all_leaves_from rest (first + leaf_count c))) (sym (leaves-length c first)) (all_numbered rest (first + leaf_count c)))

numbered_at : (k i : ℕ) (ls : List Leaf) (l : Leaf) → AreNumbered k ls → slice_get ls i ≡ Some l → IsNumbered (k + i) l
numbered_at k i [] l a e = absurd (cc)
numbered_at k zero (x ∷ xs) l a e =
    let same : x ≡ l = cc in
    subst (λ (n : ℕ). IsNumbered n l) (none k) (subst (IsNumbered k) same a.0)
  where
    none : (k : ℕ) → k ≡ k + 0
    none k = omega arith
numbered_at k (suc i) (x ∷ xs) l a e = subst (λ (n : ℕ). IsNumbered n l) (one k i) (numbered_at (k + 1) i xs l a.1 e)
  where
    one : (k i : ℕ) → (k + 1) + i ≡ k + suc i
    one k i = omega arith

pub leaf_numbered : (t : Tree) (k : ℕ) (l : Leaf) → slice_get (leaves t) k ≡ Some l → IsNumbered k l
leaf_numbered t k l e = subst (λ (n : ℕ). IsNumbered n l) (from_zero k) (numbered_at 0 k (leaves t) l (leaves_numbered t 0) e)
  where
    from_zero : (k : ℕ) → 0 + k ≡ k
    from_zero k = omega arith

-- ---- the search goes on, and finds

group_next : (name : Word) (ls : List Leaf) (i : ℕ) (l : Leaf) → slice_get ls i ≡ Some l → IsNoCellOf name l → group_at name (drop i ls) ≡ group_at name (drop (suc i) ls)
group_next name [] i l e other = absurd (cc)
group_next name (x ∷ xs) zero l e other = let same : x ≡ l = cc in passes x (subst (IsNoCellOf name) (sym same) other)
  where
    passes : (x : Leaf) → IsNoCellOf name x → group_at name (x ∷ xs) ≡ group_at name xs
    passes (atomic_leaf n class settings) h = refl
    passes (cell_leaf g first cell) h = ap (λ b. cond b (Some (first, g)) (group_at name xs)) h
group_next name (x ∷ xs) (suc i) l e other = group_next name xs i l e other

pub group_passes : (name : Word) (ls : List Leaf) (i : ℕ) (l : Leaf) → slice_get ls i ≡ Some l → IsNoCellOf name l → group_at name ls ≡ group_at name (drop i ls) → group_at name ls ≡ group_at name (drop (i + 1) ls)
group_passes name ls i l e other so = so ∙ group_next name ls i l e other ∙ ap (λ (k : ℕ). group_at name (drop k ls)) (one i)
  where
    one : (i : ℕ) → suc i ≡ i + 1
    one i = omega arith

group_here : (name : Word) (p : GroupAt) (gs : List Group) (ls : List Leaf) (i : ℕ) (l : Leaf) → slice_get ls i ≡ Some l → IsCellOf name p gs l
    → (g : Group) × (group_at name (drop i ls) ≡ Some (p.first, g)) × (slice_get gs p.number ≡ Some g)
group_here name p gs [] i l e here = absurd (cc)
group_here name p gs (x ∷ xs) zero l e here = let same : x ≡ l = cc in finds x (subst (IsCellOf name p gs) (sym same) here)
  where
    finds : (x : Leaf) → IsCellOf name p gs x → (g : Group) × (group_at name (x ∷ xs) ≡ Some (p.first, g)) × (slice_get gs p.number ≡ Some g)
    finds (atomic_leaf n class settings) h = absurd h
    finds (cell_leaf g first cell) h =
        (g, ap (λ b. cond b (Some (first, g)) (group_at name xs)) h.0 ∙ ap (λ (k : ℕ). Some (k, g)) (sym h.1), h.2)
group_here name p gs (x ∷ xs) (suc i) l e here = group_here name p gs xs i l e here

pub group_found : (name : Word) (p : GroupAt) (t : Tree) (i : ℕ) (l : Leaf) → slice_get (leaves t) i ≡ Some l → IsCellOf name p (groups t) l → group_at name (leaves t) ≡ group_at name (drop i (leaves t)) → IsGroup name (Some p) t
group_found name p t i l e here so =
    let is = group_here name p (groups t) (leaves t) i l e here in
    (is.0, so ∙ is.1, is.2)

pub group_none : (name : Word) (t : Tree) (n : ℕ) → n ≡ length (leaves t) → group_at name (leaves t) ≡ group_at name (drop n (leaves t)) → IsGroup name None t
group_none name t n all so = so ∙ ap (λ (k : ℕ). group_at name (drop k (leaves t))) all ∙ ap (group_at name) (drop-length (leaves t))

-- ---- one leaf

-- a cell of a group that was passed
pub passed_cell : (name : Word) (gs : List Group) (number cell : ℕ) (l : Leaf) → IsCellIn (slice_get gs number) cell l → ((g : Group) → slice_get gs number ≡ Some g → bytes_eq g.name name ≡ false) → IsNoCellOf name l
passed_cell name gs number cell l h other = by (slice_get gs number) refl l h
  where
    by : (o : Option Group) → slice_get gs number ≡ o → (l : Leaf) → IsCellIn o cell l → IsNoCellOf name l
    by o e (atomic_leaf n class settings) h = absurd h
    by None e (cell_leaf g first n) h = absurd h
    by (Some k) e (cell_leaf g first n) h = other g (e ∙ ap (λ (x : Group). Some x) (sym h.0))

-- a cell of the group of this name
pub named_cell : (name : Word) (p : GroupAt) (gs : List Group) (number cell leaf : ℕ) (h : Group) (l : Leaf) → IsCellIn (slice_get gs number) cell l → slice_get gs number ≡ Some h → IsNumbered leaf l → bytes_eq h.name name ≡ true → p.first ≡ leaf - cell → p.number ≡ number
    → IsCellOf name p gs l
named_cell name p gs number cell leaf h l here is numbered same first its = by l (subst (λ (o : Option Group). IsCellIn o cell l) is here) numbered
  where
    by : (l : Leaf) → IsCellIn (Some h) cell l → IsNumbered leaf l → IsCellOf name p gs l
    by (atomic_leaf n class settings) q k = absurd q
    by (cell_leaf g f n) q k =
        (ap (λ (x : Group). bytes_eq x.name name) q.0 ∙ same, let e = q.1 in omega (arith, first, k, e), ap (slice_get gs) its ∙ is ∙ ap (λ (x : Group). Some x) (sym q.0))

pub cell_within : (leaf cell number : ℕ) (gs : List Group) (l : Leaf) → IsCellIn (slice_get gs number) cell l → IsNumbered leaf l → cell ≤ leaf
cell_within leaf cell number gs l here numbered = by (slice_get gs number) l here numbered
  where
    by : (o : Option Group) (l : Leaf) → IsCellIn o cell l → IsNumbered leaf l → cell ≤ leaf
    by o (atomic_leaf n class settings) q k = absurd q
    by None (cell_leaf g f n) q k = absurd q
    by (Some h) (cell_leaf g f n) q k = let e = q.1 in omega (arith, k, e)

pub group_within : (gs : List Group) (number cell : ℕ) (l : Leaf) → IsCellIn (slice_get gs number) cell l → number < length gs
group_within gs number cell l here = by (slice_get gs number) refl l here
  where
    by : (o : Option Group) → slice_get gs number ≡ o → (l : Leaf) → IsCellIn o cell l → number < length gs
    by o e (atomic_leaf n class settings) h = absurd h
    by None e (cell_leaf g f n) h = absurd h
    by (Some k) e (cell_leaf g f n) h = slice_get_within gs number k e

-- a cell of a group of another name
pub other_named : (name : Word) (gs : List Group) (number cell : ℕ) (h : Group) (l : Leaf) → IsCellIn (slice_get gs number) cell l → slice_get gs number ≡ Some h → bytes_eq h.name name ≡ false → IsNoCellOf name l
other_named name gs number cell h l here is other = by l (subst (λ (o : Option Group). IsCellIn o cell l) is here)
  where
    by : (l : Leaf) → IsCellIn (Some h) cell l → IsNoCellOf name l
    by (atomic_leaf n class settings) q = tt
    by (cell_leaf g f n) q = ap (λ (x : Group). bytes_eq x.name name) q.0 ∙ other

-- the leaf that there is
pub leaf_in : (t : Tree) (k : ℕ) → k < leaf_count t → (l : Leaf) × (slice_get (leaves t) k ≡ Some l)
leaf_in t k lt =
    let d = atomic_leaf [] Queue [] in
    (get_or (leaves t) k d, slice_get-get_or (leaves t) k d (omega (arith, lt, leaves-length t 0)))

pub same_passed : (o : Option ℕ) (n : ℕ) → true ≡ option_eq nat_eq o (Some n) → o ≡ Some n
same_passed None n e = absurd (cc)
same_passed (Some m) n e = ap (λ (k : ℕ). Some k) (same m n e)
  where
    same : (m n : ℕ) → true ≡ nat_eq m n → m ≡ n
    same m n e = grind (arith, nat_tests)

pub names_differ : (x y u v : Word) → true ≡ not (bytes_eq x y) → x ≡ u → y ≡ v → bytes_eq u v ≡ false
names_differ x y u v e p q = sym (λ i. bytes_eq (p i) (q i)) ∙ off (bytes_eq x y) e
  where
    off : (b : Bool) → true ≡ not b → b ≡ false
    off true e = absurd (cc)
    off false e = refl

pub names_agree : (x y u v : Word) → false ≡ not (bytes_eq x y) → x ≡ u → y ≡ v → bytes_eq u v ≡ true
names_agree x y u v e p q = sym (λ i. bytes_eq (p i) (q i)) ∙ on (bytes_eq x y) e
  where
    on : (b : Bool) → false ≡ not b → b ≡ true
    on true e = refl
    on false e = absurd (cc)

-- a leaf of an atomic component is no cell
pub box_no_cell : (name : Word) (words : List ℤ) (l : Leaf) → HasBox words l → IsNoCellOf name l
box_no_cell name words (atomic_leaf n class settings) h = tt
box_no_cell name words (cell_leaf g first cell) h = absurd h
