-- The files that a run leaves, however it ends, what it cost, and what is told where it broke off: by
-- the cycles that were begun.
use Rattle.std.specs.Prelude.{◌≡◌, ℕ, ◌+◌, ◌≤◌, Bool, Option, List, [], ◌∷◌, ◌++◌, ⊤}
use Rattle.std.specs.Bool.{OnTrue}
use Rattle.std.specs.List.{sum_by}
use Rattle.model_tree.specs.Tree.{Word, Tree}
use Rattle.run_model.specs.Run.{Cycle, Run}
use Rattle.run_model.specs.Visits.{cycle_visits, last_visits}
use Rattle.room_edge.specs.Outside.{Outside}
use Rattle.answer_model.specs.Headline.{puts_all}
use Rattle.answer_model.specs.FaultsAnswered.{NoComplaintFault}
use Rattle.answer_model.specs.RunFiles.{saved_text}
use Rattle.answer_model.specs.Visits.{state_visits}
use Rattle.answer_model.specs.declared.status.Status.{Status}
use Rattle.run_loop.specs.declared.outputs.Output.{Output}
use Rattle.run_loop.specs.declared.outputs.Unwritten.{Unwritten}
use Rattle.run_loop.specs.Texts.{FileNames, Texts, both, files, made_before}
use Rattle.run_loop.specs.Order.{Piece, texts_of, WritesInOrder}
use Rattle.run_loop.specs.Written.{LacksIn, FaultCounted, IsThere, Tells}
use Rattle.run_loop.specs.Showing.{Showing}
use Rattle.run_loop.specs.Pieces.{cycle_pieces, drawn_after, cycles_pieces, end_pieces, run_pieces}

-- what is asked of a run's files: their names, of what and up to which end; and the file of the
-- state that the run goes on from, if it does
pub record Asking : Type 0 where
  pub names : FileNames
  pub tree : Tree
  pub letters : List ℕ
  pub end : ℕ
  pub state : Option Word

-- the visits that were counted before and after, where they are counted
pub record Spent : Type 0 where
  pub is_counted : Bool
  pub before : ℕ
  pub after : ℕ

abbrev pub spent_between : Bool → ℕ → ℕ → Spent
spent_between is_counted before after =
    record { is_counted = is_counted; before = before; after = after }

-- the visits of the state that the run goes on from
abbrev pub first_visits : Asking → ℕ
first_visits a = state_visits a.state a.tree

-- all that the files of a whole run hold
abbrev pub whole_texts : Asking → Run → Option Showing → Texts
whole_texts a r w =
    texts_of (run_pieces a.tree a.letters w r.cycles (saved_text a.end a.tree r))

-- ---- where a run broke off

-- in a cycle that was begun, with those before and behind it; or after all of its cycles
pub data BreakPoint : Type 0 where
  in_a_cycle : (before : List Cycle) (cycle : Cycle) (behind : List Cycle) → BreakPoint
  after_cycles : BreakPoint

-- those are the cycles of the run
abbrev pub IsPointOf : Run → BreakPoint → Type 0
IsPointOf r (in_a_cycle before c behind) = r.cycles ≡ before ++ c ∷ behind
IsPointOf r after_cycles = ⊤

-- the pieces that come before it
abbrev pub pieces_before : Asking → Run → Option Showing → BreakPoint → List Piece
pieces_before a r w (in_a_cycle before c behind) = cycles_pieces a.tree a.letters w before
pieces_before a r w after_cycles = cycles_pieces a.tree a.letters w r.cycles

-- and those that were begun there: of that cycle, or the last frame and the state at the end
abbrev pub pieces_begun : Asking → Run → Option Showing → BreakPoint → List Piece
pieces_begun a r w (in_a_cycle before c behind) =
    cycle_pieces a.tree a.letters (drawn_after before w) c
pieces_begun a r w after_cycles =
    end_pieces (drawn_after r.cycles w) (saved_text a.end a.tree r)

-- the visits that the cycles up to it may cost; after all of them, those of the verdict too, and of
-- the state that is saved
abbrev pub visits_begun : Asking → Run → BreakPoint → ℕ
visits_begun a r (in_a_cycle before c behind) = sum_by (cycle_visits a.tree) (before ++ c ∷ [])
visits_begun a r after_cycles =
    sum_by (cycle_visits a.tree) r.cycles + last_visits a.tree r.verdict r.left
    + state_visits a.names.state a.tree

-- what stands in the files then: the pieces before that point whole, and of those begun there the
-- first; the last of these lacks bytes, where its file could not be written
pub record BreaksIn (a : Asking) (r : Run) (w : Option Showing) (why : Unwritten)
    (point : BreakPoint) (part : Texts) : Type 0 where
  pub is_point : IsPointOf r point
  pub begun : Texts
  pub order : WritesInOrder (pieces_begun a r w point) begun
  pub lacks : LacksIn why a.names order.last order.begun
  pub texts : part ≡ both (texts_of (pieces_before a r w point)) begun

-- what is told of it: the fault was counted, where it was one, before anything was complained, and
-- then the line of the file that could not be written is told, as far as it can be
pub record TellsWhy (n : FileNames) (why : Unwritten) (old new : Outside) (status : Status) : Type 0
  where
    pub moment : Outside
    pub quiet : moment.complained ≡ old.complained
    pub unfailed : NoComplaintFault old moment
    pub fault : FaultCounted why old moment
    pub tells : Tells n why moment new status

-- ---- the end

-- the files stand outside, and there were no more visits than the cycles that were begun cost
pub data Leaves (a : Asking) (r : Run) (w : Option Showing) (old new : Outside) (spent : Spent)
    (status : Status) : Type 0 where
  -- those before one that was not made, all empty; no cycle was begun
  some_made : (why : Unwritten) (file : Output) → IsThere why a.names file
      → new.made ≡ puts_all old.made (made_before a.names file)
      → TellsWhy a.names why old new status
      → OnTrue spent.is_counted (spent.after ≤ spent.before + first_visits a)
      → Leaves a r w old new spent status
  -- all of them, with pieces up to where the run broke off, and no cycle was begun behind that
  broken_off : (why : Unwritten) (point : BreakPoint) (part : Texts)
      → BreaksIn a r w why point part
      → new.made ≡ puts_all old.made (files a.names part)
      → TellsWhy a.names why old new status
      → OnTrue spent.is_counted
      (spent.after ≤ spent.before + first_visits a + visits_begun a r point)
      → Leaves a r w old new spent status
  -- all of them whole
  all_made : new.made ≡ puts_all old.made (files a.names (whole_texts a r w))
      → OnTrue spent.is_counted
      (spent.after ≤ spent.before + first_visits a + visits_begun a r after_cycles)
      → Leaves a r w old new spent status
