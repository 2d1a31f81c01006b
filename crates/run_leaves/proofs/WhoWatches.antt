-- Blocks tell who watches whom as the tree does.
use Rattle.std.proofs.Common.{◌≡◌, ℕ, ◌+◌, ◌-◌, ◌<◌, ◌≤◌, Bool, true, false, ◌&&◌, ◌||◌, eqb, leb, ne_eqb, Option, Some, None, List, [], ◌∷◌, length, ◌⊎◌, inl, inr, refl, sym, ◌∙◌, ap, subst, arith}
use Rattle.std.specs.Prelude.{slice_get, slice_index_or}
use Rattle.std.specs.Option.{option_map}
use Rattle.std.specs.List.{list_any}
use Rattle.std.proofs.lemmas.Bool.{cases_lt, lt-ltb, le-ltb, le-leb}
use Rattle.std.proofs.lemmas.Bool.Decides.{nat_tests}
use Rattle.std.proofs.lemmas.Option.{slice_get_past}
use Rattle.quantity.specs.declared.place.Offset.{Offset}
use Rattle.cell_grid.specs.Space.{cell_count, neighbour}
use Rattle.cell_grid.specs.Watched.{is_this_cell}
use Rattle.cell_reach.specs.Neighbourhoods.{is_watcher}
use Rattle.cell_grid.proofs.Opposites.{neighbour-inside}
use Rattle.model_tree.specs.Tree.{Group, Tree, Leaf, atomic_leaf, cell_leaf, leaf_count, leaves}
use Rattle.model_leaves.proofs.Read.{leaves-length}
use Rattle.run_model.specs.Cycle.{neighbour_leaf}
use Rattle.sparse_cycle.specs.Wake.{is_this_leaf, watches, watches_at}
use Rattle.run_leaves.specs.declared.blocks.Block.{Block}
use Rattle.run_leaves.specs.Watching.{watches_in, watches_there, watches_by, IsWatchingOf, IsIn, IsInBlock, StandInBlocks, block_of, IsSeatOf, AreSeated}
use Rattle.run_leaves.proofs.Places.{none-some, some-is, get-within, found-at, read-at}
use Rattle.run_leaves.proofs.GroupRuns.{stands-in-group}

-- a neighbour is the leaf just where it is the cell
one-neighbour : (first l : ℕ) → first ≤ l → (m : Option ℕ) → is_this_leaf l (option_map (λ n. first + n) m) ≡ is_this_cell (l - first) m
one-neighbour first l le None = refl
one-neighbour first l le (Some n) = same first l n le
  where
    same : (first l n : ℕ) → first ≤ l → eqb l (first + n) ≡ eqb n (l - first)
    same first l n le = grind (arith, nat_tests)

each-neighbour : (g : Group) (first l cell : ℕ) → first ≤ l → (os : List Offset) → list_any (λ o. is_this_leaf l (neighbour_leaf g first cell o)) os ≡ list_any (λ o. is_this_cell (l - first) (neighbour g.space cell o)) os
each-neighbour g first l cell le [] = refl
each-neighbour g first l cell le (o ∷ os) =
    λ i. one-neighbour first l le (neighbour g.space cell o) i || each-neighbour g first l cell le os i

-- two cells of one group
in-block : (g : Group) (first k l : ℕ) → first ≤ l → first ≤ k → k - first < cell_count g.space → watches_in (Some (block_of g first)) k l ≡ list_any (λ o. is_this_leaf l (neighbour_leaf g first (k - first) o)) g.offsets
in-block g first k l begun after inside =
    (λ i. le-leb first k after i && (lt-ltb (k - first) (cell_count g.space) inside i && list_any (λ o. is_this_cell (l - first) (neighbour g.space (k - first) o)) g.offsets))
    ∙ sym (each-neighbour g first l (k - first) begun g.offsets)

-- a leaf that is not in the block
before-block : (g : Group) (first k l : ℕ) → k < first → watches_in (Some (block_of g first)) k l ≡ false
before-block g first k l lt = ap (λ b. b && is_watcher (block_of g first).reach (l - first) (k - first)) (off first k lt)
  where
    off : (first k : ℕ) → k < first → leb first k ≡ false
    off first k lt = grind (arith, nat_tests)

after-block : (g : Group) (first k l : ℕ) → cell_count g.space ≤ k - first → watches_in (Some (block_of g first)) k l ≡ false
after-block g first k l ge =
    (λ i. leb first k && (le-ltb (k - first) (cell_count g.space) ge i && list_any (λ o. is_this_cell (l - first) (neighbour g.space (k - first) o)) g.offsets))
    ∙ and-false (leb first k)
  where
    and-false : (b : Bool) → (b && false) ≡ false
    and-false true = refl
    and-false false = refl

module _ (tree : Tree) where
  -- the first leaf has no neighbour that is the second
  no-neighbour : (k l first cell : ℕ) (g : Group) → slice_get (leaves tree) k ≡ Some (cell_leaf g first cell)
      → ((n : ℕ) → slice_get (leaves tree) l ≡ Some (cell_leaf g first n) → ⊥) → (os : List Offset) → list_any (λ o. is_this_leaf l (neighbour_leaf g first cell o)) os ≡ false
  no-neighbour k l first cell g is apart [] = refl
  no-neighbour k l first cell g is apart (o ∷ os) = λ i. one (neighbour g.space cell o) refl i || no-neighbour k l first cell g is apart os i
    where
      one : (m : Option ℕ) → neighbour g.space cell o ≡ m → is_this_leaf l (option_map (λ n. first + n) m) ≡ false
      one None e = refl
      one (Some n) e =
          let stands = stands-in-group tree k g first cell is in
          let inside : n < cell_count g.space = neighbour-inside g.space cell n o stands.inside e in
          ne_eqb l (first + n) (λ same. apart n (ap (slice_get (leaves tree)) same ∙ stands.others n inside))

  no-watcher : (k l : ℕ) → ((g : Group) (first cell n : ℕ) → slice_get (leaves tree) k ≡ Some (cell_leaf g first cell) → slice_get (leaves tree) l ≡ Some (cell_leaf g first n) → ⊥) → watches_at tree k l ≡ false
  no-watcher k l apart = by (slice_get (leaves tree) k) refl
    where
      by : (o : Option Leaf) → slice_get (leaves tree) k ≡ o → watches l o ≡ false
      by None e = refl
      by (Some (atomic_leaf name class settings)) e = refl
      by (Some (cell_leaf g first cell)) e = no-neighbour k l first cell g e (λ n is. apart g first cell n e is) g.offsets

  -- where the second leaf is a cell of this group
  module _ (g : Group) (first cell l : ℕ) (is : slice_get (leaves tree) l ≡ Some (cell_leaf g first cell)) where
    same-group : (k n c : ℕ) (h : Group) (f : ℕ) → slice_get (leaves tree) k ≡ Some (cell_leaf h f c) → slice_get (leaves tree) l ≡ Some (cell_leaf h f n) → (first + c ≡ k) × (c < cell_count g.space)
    same-group k n c h f there here =
        let same : cell_leaf g first cell ≡ cell_leaf h f n = some-is (cell_leaf g first cell) (cell_leaf h f n) (sym is ∙ here) in
        let group : g ≡ h = cc in
        let begin : first ≡ f = cc in
        let stands = stands-in-group tree k h f c there in
        let number = stands.number in
        (omega (arith, begin, number), subst (λ (x : Group). c < cell_count x.space) (sym group) stands.inside)

    by-block : (k : ℕ) → watches_in (Some (block_of g first)) k l ≡ watches_at tree k l
    by-block k =
        elim (cases_lt k first) [
          | inl lt ↦ before-block g first k l lt ∙ sym (no-watcher k l (λ h f c n there here. (let same = same-group k n c h f there here in let number = same.0 in omega (arith, number, lt))))
          | inr after ↦ elim (cases_lt (k - first) (cell_count g.space)) [
            | inl inside ↦ in-block g first k l begun after inside ∙ sym (ap (watches l) (here k after inside))
            | inr ge ↦ after-block g first k l ge ∙ sym (no-watcher k l (λ h f c n there here. (let same = same-group k n c h f there here in let number = same.0 in let less = same.1 in omega (arith, number, less, ge))))
          ]
        ]
      where
        begun : first ≤ l
        begun = let stands = stands-in-group tree l g first cell is in let number = stands.number in omega (arith, number)

        here : (k : ℕ) → first ≤ k → k - first < cell_count g.space → slice_get (leaves tree) k ≡ Some (cell_leaf g first (k - first))
        here k after inside =
            let stands = stands-in-group tree l g first cell is in
            let back : k ≡ first + (k - first) = omega (arith, after) in
            ap (slice_get (leaves tree)) back ∙ stands.others (k - first) inside

  -- ---- where all leaves have their places
  module _ (seats : List (Option ℕ)) (blocks : List Block) (long : length seats ≡ leaf_count tree) (seated : AreSeated tree seats blocks) where
    there : (l : ℕ) (leaf : Leaf) → slice_get (leaves tree) l ≡ Some leaf → (seat : Option ℕ) × (slice_get seats l ≡ Some seat) × IsSeatOf blocks leaf seat
    there l leaf is =
        let within : l < length (leaves tree) = get-within (leaves tree) l leaf is in
        let all = leaves-length tree 0 in
        let found = found-at seats l (omega (arith, within, all, long)) in
        (found.0, found.1, seated l leaf found.0 is found.1)

    watches-same : (k l : ℕ) → watches_there blocks (slice_get seats l) k l ≡ watches_at tree k l
    watches-same k l = by (slice_get (leaves tree) l) refl
      where
        by : (o : Option Leaf) → slice_get (leaves tree) l ≡ o → watches_there blocks (slice_get seats l) k l ≡ watches_at tree k l
        by None e =
            let none : slice_get seats l ≡ None = slice_get_past seats l (past (cases_lt l (length seats))) in
            ap (λ (s : Option (Option ℕ)). watches_there blocks s k l) none ∙ sym (no-watcher k l (λ g first cell n at here. none-some (sym e ∙ here)))
          where
            past : (l < length seats) ⊎ (length seats ≤ l) → length seats ≤ l
            past (inl lt) =
                let all = leaves-length tree 0 in
                let some = found-at (leaves tree) l (omega (arith, lt, all, long)) in
                absurd (none-some (sym e ∙ some.1))
            past (inr ge) = ge
        by (Some (atomic_leaf name class settings)) e =
            let seat = there l (atomic_leaf name class settings) e in
            ap (λ (s : Option (Option ℕ)). watches_there blocks s k l) (seat.1 ∙ ap Some seat.2) ∙ sym (no-watcher k l (λ g first cell n at here. no-cell name class settings g first n (some-is _ _ (sym e ∙ here))))
          where
            no-cell : (name : _) (class : _) (settings : _) (g : Group) (first n : ℕ) → atomic_leaf name class settings ≡ cell_leaf g first n → ⊥
            no-cell name class settings g first n e = cc
        by (Some (cell_leaf g first cell)) e =
            let seat = there l (cell_leaf g first cell) e in
            ap (λ (s : Option (Option ℕ)). watches_there blocks s k l) (seat.1 ∙ ap Some seat.2.1)
            ∙ ap (λ (b : Option Block). watches_in b k l) seat.2.2 ∙ by-block g first cell l e k

    pub is-watching : IsWatchingOf tree (record { seats = seats; blocks = blocks })
    is-watching = record { long = long; watches = watches-same }

    pub stand-in-blocks : StandInBlocks seats blocks
    stand-in-blocks l number is =
        let within : l < length seats = get-within seats l (Some number) is in
        let all = leaves-length tree 0 in
        let found = found-at (leaves tree) l (omega (arith, within, all, long)) in
        in-place found.0 found.1 (seated l found.0 (Some number) found.1 is)
      where
        in-place : (leaf : Leaf) → slice_get (leaves tree) l ≡ Some leaf → IsSeatOf blocks leaf (Some number) → IsInBlock (length seats) blocks l number
        in-place (atomic_leaf name class settings) e none = absurd (none-some (sym none))
        in-place (cell_leaf g first cell) e seat =
            let same : number ≡ seat.0 = some-is number seat.0 seat.1 in
            let stands = stands-in-group tree l g first cell e in
            let at = stands.number in
            let inside = stands.inside in
            let short = stands.short in
            record {
              block = block_of g first;
              kept = ap (slice_get blocks) same ∙ seat.2;
              here = record {
                begun = omega (arith, at);
                inside = omega (arith, at, inside);
                short = omega (arith, short, long);
                room = omega arith;
              };
            }

-- ---- one leaf

module _ (seats : List (Option ℕ)) (blocks : List Block) (stand : StandInBlocks seats blocks) (l : ℕ) (seat : Option ℕ) (at : slice_get seats l ≡ Some seat) where
  seat-is : (s : Option ℕ) → seat ≡ s → slice_get seats l ≡ Some s
  seat-is s is = at ∙ ap Some is

  -- a leaf in no block
  pub none-watch : seat ≡ None → (k : ℕ) → watches_by (record { seats = seats; blocks = blocks }) k l ≡ false
  none-watch is k = ap (λ (s : Option (Option ℕ)). watches_there blocks s k l) (seat-is None is)

  module _ (number : ℕ) (is : seat ≡ Some number) where
    pub block-within : number < length blocks
    block-within = let place = stand l number (seat-is (Some number) is) in get-within blocks number place.block place.kept

    -- a leaf in this block
    module _ (b : Block) (block : b ≡ slice_index_or blocks number b) where
      kept : slice_get blocks number ≡ Some b
      kept = read-at blocks number b block-within block

      pub is-in : IsIn (length seats) l b
      is-in =
          let place = stand l number (seat-is (Some number) is) in
          subst (IsIn (length seats) l) (some-is place.block b (sym place.kept ∙ kept)) place.here

      pub block-watch : (k : ℕ) → watches_by (record { seats = seats; blocks = blocks }) k l ≡ watches_in (Some b) k l
      block-watch k =
          ap (λ (s : Option (Option ℕ)). watches_there blocks s k l) (seat-is (Some number) is) ∙ ap (λ (o : Option Block). watches_in o k l) kept
