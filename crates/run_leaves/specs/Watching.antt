-- Who watches whom, by the blocks of cells that leaves are in.
use Rattle.std.specs.Prelude.{◌≡◌, ℕ, ◌+◌, ◌-◌, ◌<◌, ◌≤◌, Bool, false, ◌&&◌, nat_le, Option, Some, None, List, length, slice_get}
use Rattle.cell_grid.specs.Space.{cell_count}
use Rattle.cell_reach.specs.Neighbourhoods.{is_watcher}
use Rattle.model_tree.specs.Tree.{Tree, Group, Leaf, atomic_leaf, cell_leaf, leaves, leaf_count}
use Rattle.sparse_cycle.specs.Wake.{watches_at}
use Rattle.run_leaves.specs.declared.blocks.Block.{Block}

-- the number of the block that each leaf is in, if any, and the blocks: the cells of a group each
pub record Watching : Type 0 where
  pub seats : List (Option ℕ)
  pub blocks : List Block

-- the leaf of the first number watches that of the second, which is in this block
abbrev pub watches_in : Option Block → ℕ → ℕ → Bool
watches_in None k l = false
watches_in (Some b) k l = nat_le b.first k && is_watcher b.reach (l - b.first) (k - b.first)

-- the same by the number of that block
abbrev pub watches_there : List Block → Option (Option ℕ) → ℕ → ℕ → Bool
watches_there blocks None k l = false
watches_there blocks (Some None) k l = false
watches_there blocks (Some (Some number)) k l = watches_in (slice_get blocks number) k l

-- the leaf of the first number watches that of the second
abbrev pub watches_by : Watching → ℕ → ℕ → Bool
watches_by w k l = watches_there w.blocks (slice_get w.seats l) k l

-- they are the watchers of a model: there is a place for each leaf, and each watches whom it
-- watches there
pub record IsWatchingOf (tree : Tree) (w : Watching) : Type 0 where
  pub long : length w.seats ≡ leaf_count tree
  pub watches : (k l : ℕ) → watches_by w k l ≡ watches_at tree k l

-- ---- what holds of blocks

-- the leaf behind the last of a block
abbrev pub end_of : Block → ℕ
end_of b = b.first + cell_count b.reach.space

-- the leaf is in this block, which ends within so many leaves
pub record IsIn (count l : ℕ) (b : Block) : Type 0 where
  pub begun : b.first ≤ l
  pub inside : l < end_of b
  pub short : end_of b ≤ count
  pub room : length b.reach.offsets ≤ b.most

-- there is the block of this number, and the leaf is in it
pub record IsInBlock (count : ℕ) (blocks : List Block) (l number : ℕ) : Type 0 where
  pub block : Block
  pub kept : slice_get blocks number ≡ Some block
  pub here : IsIn count l block

-- each leaf that has the number of a block is in it
abbrev pub StandInBlocks : List (Option ℕ) → List Block → Type 0
StandInBlocks seats blocks =
    (l number : ℕ) → slice_get seats l ≡ Some (Some number)
    → IsInBlock (length seats) blocks l number

-- ---- the blocks of a model

-- the block of a group whose first cell has this leaf number
abbrev pub block_of : Group → ℕ → Block
block_of g first =
    record {
      first = first;
      most = length g.offsets;
      reach = record { space = g.space; offsets = g.offsets };
    }

-- an atomic component is in no block, and a cell in that of its group
abbrev pub IsSeatOf : List Block → Leaf → Option ℕ → Type 0
IsSeatOf blocks (atomic_leaf name class settings) seat = seat ≡ None
IsSeatOf blocks (cell_leaf g first cell) seat =
    (number : ℕ) × (seat ≡ Some number) × (slice_get blocks number ≡ Some (block_of g first))

-- so it is for the leaves that have a place
abbrev pub AreSeated : Tree → List (Option ℕ) → List Block → Type 0
AreSeated tree seats blocks =
    (k : ℕ) (l : Leaf) (seat : Option ℕ) → slice_get (leaves tree) k ≡ Some l
    → slice_get seats k ≡ Some seat
    → IsSeatOf blocks l seat
