-- What a run begins with.
use Rattle.std.specs.Prelude.{◌≡◌, ℕ, ◌+◌, ◌≤◌, Option, Some, None, List}
use Rattle.model_tree.specs.Tree.{Tree, leaf_count}
use Rattle.run_model.specs.Run.{Event}
use Rattle.text_forms.specs.StateOf.{Saved}
use Rattle.answer_model.specs.Asked.{ModelSource, file, made, Asked}
use Rattle.answer_model.specs.Visits.{state_visits}
use Rattle.asked_words.specs.declared.asked.Asked as code
use Rattle.asked_words.specs.Shown.{asked_of}
use Rattle.run_leaves.specs.Standing.{Standing, tree_in}
use Rattle.run_loop.specs.Counts.{Counts, no_counts}
use Rattle.run_loop.specs.Groups.{showing_at_start}
use Rattle.run_loop.specs.Showing.{Showing}
use Rattle.run_loop.specs.Answers.{BeginsFrom}
use Rattle.run_loop.specs.declared.going.Going.{Going}

-- the counts before a run, where a model is made
abbrev pub counts_at_start : Tree → ModelSource → Option Counts
counts_at_start tree (file name) = None
counts_at_start tree (made size) = Some (no_counts (leaf_count tree))

-- nothing is counted yet
pub record CountsNone (a : Asked) (tree : Tree) (going : Going) : Type 0 where
  pub counted : going.counted ≡ counts_at_start tree a.source
  pub cycles : going.cycles ≡ 0

-- these frames are drawn of nothing yet, but for the state from which the run may begin
abbrev pub IsDrawnAtStart : code.Asked → Standing → Option Showing → Type 0
IsDrawnAtStart a s drawn =
    (events : List Event) (from : Option Saved) → BeginsFrom (asked_of a) events from s
    → drawn ≡ showing_at_start (tree_in s) from (asked_of a).frames

-- since this many visits no more were counted than the state takes that the run goes on from
abbrev pub IsBegunAt : code.Asked → Standing → ℕ → ℕ → Type 0
IsBegunAt a s before now = now ≤ before + state_visits (asked_of a).state (tree_in s)
