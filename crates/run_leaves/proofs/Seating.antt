-- The places of leaves, made one after another.
use Rattle.std.proofs.Common.{◌≡◌, ◌≢◌, ℕ, zero, suc, ◌+◌, ◌-◌, ◌<◌, ◌≤◌, Option, Some, None, List, [], ◌∷◌, ◌++◌, length, inl, inr, refl, sym, ◌∙◌, ap, subst, arith}
use Rattle.std.specs.Prelude.{slice_get, ℤ}
use Rattle.std.proofs.lemmas.Option.{slice_get_within}
use Rattle.model_leaves.specs.declared.leaves.LeafAt.{LeafAt}
use Rattle.model_leaves.specs.declared.leaves.LeafAt.TheVariants.{Atomic, Cell}
use Rattle.model_tree.specs.Tree.{Group, Tree, Leaf, atomic_leaf, cell_leaf, leaves, groups}
use Rattle.model_leaves.specs.Leaves.{Settings, HasBox, IsCellIn, StandsAt}
use Rattle.run_leaves.specs.declared.blocks.Block.{Block}
use Rattle.run_leaves.specs.Anchored.{IsCellWithin}
use Rattle.run_leaves.specs.Watching.{block_of, IsSeatOf, AreSeated}
use Rattle.run_leaves.proofs.Places.{none-some, some-is}
use Rattle.run_leaves.proofs.GroupRuns.{get-left, get-right, get-either, stands-in-group, before-cell}

-- ---- a further block, and a further place

seat-begun : (blocks : List Block) (b : Block) (l : Leaf) (seat : Option ℕ) → IsSeatOf blocks l seat → IsSeatOf (blocks ++ b ∷ []) l seat
seat-begun blocks b (atomic_leaf name class settings) seat is = is
seat-begun blocks b (cell_leaf g first cell) seat is = (is.0, is.1, get-left blocks (b ∷ []) is.0 (block_of g first) is.2)

pub seated-begun : (tree : Tree) (seats : List (Option ℕ)) (blocks : List Block) (b : Block) → AreSeated tree seats blocks → AreSeated tree seats (blocks ++ b ∷ [])
seated-begun tree seats blocks b seated k l seat leaf at = seat-begun blocks b l seat (seated k l seat leaf at)

last-is : {A : Type 0} (x y : A) (j : ℕ) → slice_get (x ∷ []) j ≡ Some y → (j ≡ 0) × (x ≡ y)
last-is x y zero e = (refl, some-is x y e)
last-is x y (suc j) e = absurd (none-some e)

pub seated-more : (tree : Tree) (seats : List (Option ℕ)) (blocks : List Block) (n : ℕ) (seat : Option ℕ) → length seats ≡ n → AreSeated tree seats blocks
    → ((l : Leaf) → slice_get (leaves tree) n ≡ Some l → IsSeatOf blocks l seat) → AreSeated tree (seats ++ seat ∷ []) blocks
seated-more tree seats blocks n seat long seated here k l found leaf at =
    elim (get-either seats (seat ∷ []) k found at) [
      | inl before ↦ seated k l found leaf before
      | inr last ↦
          let is = last-is seat found last.0 last.2 in
          let zero_on = is.0 in
          let place = last.1 in
          let same : k ≡ n = omega (arith, zero_on, place, long) in
          subst (IsSeatOf blocks l) is.1 (here l (ap (slice_get (leaves tree)) (sym same) ∙ leaf))
    ]

-- ---- one leaf

pub box-seat : (blocks : List Block) (words : List ℤ) (l : Leaf) → HasBox words l → IsSeatOf blocks l None
box-seat blocks words (atomic_leaf name class settings) h = refl
box-seat blocks words (cell_leaf g first cell) h = absurd h

pub group-within : (gs : List Group) (number cell : ℕ) (l : Leaf) → IsCellIn (slice_get gs number) cell l → number < length gs
group-within gs number cell l here = by (slice_get gs number) refl l here
  where
    by : (o : Option Group) → slice_get gs number ≡ o → (l : Leaf) → IsCellIn o cell l → number < length gs
    by o e (atomic_leaf n class settings) h = absurd h
    by None e (cell_leaf g first n) h = absurd h
    by (Some k) e (cell_leaf g first n) h = slice_get_within gs number k e

-- a cell that is not its group's first is no first leaf
pub some-before : (tree : Tree) (o : Option Group) (cell k : ℕ) (l : Leaf) → slice_get (leaves tree) k ≡ Some l → IsCellIn o cell l → cell ≢ 0 → 1 ≤ k
some-before tree o cell k (atomic_leaf name class settings) leaf here not = absurd here
some-before tree None cell k (cell_leaf g first n) leaf here not = absurd here
some-before tree (Some h) cell k (cell_leaf g first n) leaf here not =
    let stands = stands-in-group tree k g first n leaf in
    let number = stands.number in
    let same = here.1 in
    omega (arith, number, same, not)

-- as many leaves stand before a cell as cells of its group, or more
pub cell-within : (tree : Tree) (settings : Settings) (k : ℕ) (a : LeafAt) (l : Leaf) → slice_get (leaves tree) k ≡ Some l → StandsAt tree settings a l → IsCellWithin k a
cell-within tree settings k (Atomic at) l leaf here = tt
cell-within tree settings k (Cell group cell) l leaf here = by (slice_get (groups tree) group) l leaf here
  where
    by : (o : Option Group) (l : Leaf) → slice_get (leaves tree) k ≡ Some l → IsCellIn o cell l → cell ≤ k
    by o (atomic_leaf name class settings) leaf here = absurd here
    by None (cell_leaf g first n) leaf here = absurd here
    by (Some h) (cell_leaf g first n) leaf here =
        let stands = stands-in-group tree k g first n leaf in
        let number = stands.number in
        let same = here.1 in
        omega (arith, number, same)

-- a group's first cell is in the block that is begun
pub first-seat : (tree : Tree) (o : Option Group) (h : Group) (cell k : ℕ) (blocks : List Block) (l : Leaf) → slice_get (leaves tree) k ≡ Some l → IsCellIn o cell l → o ≡ Some h → cell ≡ 0
    → IsSeatOf (blocks ++ block_of h k ∷ []) l (Some (length blocks))
first-seat tree o h cell k blocks l leaf here is zero_is = by l leaf (subst (λ (x : Option Group). IsCellIn x cell l) is here)
  where
    none : (n : ℕ) → n ≡ n + 0
    none n = omega arith

    by : (l : Leaf) → slice_get (leaves tree) k ≡ Some l → IsCellIn (Some h) cell l → IsSeatOf (blocks ++ block_of h k ∷ []) l (Some (length blocks))
    by (atomic_leaf name class settings) leaf q = absurd q
    by (cell_leaf g first n) leaf q =
        let stands = stands-in-group tree k g first n leaf in
        let number = stands.number in
        let cell_is = q.1 in
        let begin : k ≡ first = omega (arith, number, cell_is, zero_is) in (
          length blocks,
          refl,
          ap (slice_get (blocks ++ block_of h k ∷ [])) (none (length blocks)) ∙ get-right blocks (block_of h k ∷ []) 0 ∙ (λ i. Some (block_of (sym q.0 i) (begin i))),
        )

-- a further cell is in the block of the leaf before it
pub next-seat : (tree : Tree) (o : Option Group) (cell k : ℕ) (seats : List (Option ℕ)) (blocks : List Block) (l : Leaf) (seat : Option ℕ) → slice_get (leaves tree) k ≡ Some l → IsCellIn o cell l → cell ≢ 0
    → slice_get seats (k - 1) ≡ Some seat → AreSeated tree seats blocks → IsSeatOf blocks l seat
next-seat tree o cell k seats blocks (atomic_leaf name class settings) seat leaf here not at seated = absurd here
next-seat tree None cell k seats blocks (cell_leaf g first n) seat leaf here not at seated = absurd here
next-seat tree (Some h) cell k seats blocks (cell_leaf g first n) seat leaf here not at seated =
    let same = here.1 in
    let before = before-cell tree k g first n leaf (omega (arith, same, not)) in
    seated (k - 1) (cell_leaf g first (n - 1)) seat before at
