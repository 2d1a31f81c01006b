-- What a run came to: its verdict and all that it writes, or the cycles that were begun.
use Rattle.std.specs.Prelude.{◌≡◌, ◌+◌, ◌≤◌, Option, length, Result, Ok, Err}
use Rattle.std.specs.Bool.{OnTrue}
use Rattle.std.specs.List.{sum_by}
use Rattle.std.specs.Option.{option_map}
use Rattle.run_model.specs.Run.{Run}
use Rattle.run_model.specs.Visits.{cycle_visits, last_visits}
use Rattle.room_edge.specs.Outside.{Outside}
use Rattle.run_leaves.specs.Standing.{Standing, tree_in}
use Rattle.run_loop.specs.declared.outputs.Unwritten.{Unwritten}
use Rattle.text_forms.specs.Chosen.{letters_of}
use Rattle.answer_model.specs.RunFiles.{saved_text}
use Rattle.asked_words.specs.declared.asked.Asked as code
use Rattle.asked_words.specs.Shown.{text_of_name}
use Rattle.run_loop.specs.AskedFiles.{names_of}
use Rattle.run_loop.specs.Written.{AddsAll, Falls}
use Rattle.run_loop.specs.Showing.{Showing}
use Rattle.run_loop.specs.Pieces.{drawn_after, cycles_pieces, run_pieces}
use Rattle.run_loop.specs.Counts.{counts_of}
use Rattle.run_loop.specs.declared.ending.Ending.{Ending}
use Rattle.run_loop.specs.declared.going.Going.{Going}
use Rattle.run_loop.specs.Ends.{IsVerdict}
use Rattle.run_loop.specs.Leaves.{Asking, Spent, BreakPoint, after_cycles, IsPointOf, pieces_before, pieces_begun, visits_begun}

-- of a run from where it stands
abbrev pub asking_of : code.Asked → Standing → Asking
asking_of a s =
    record {
      names = names_of a;
      tree = tree_in s;
      letters = letters_of a.given.letters;
      end = a.end;
      state = text_of_name a.given.state;
    }

-- a write failed or memory ran out: the pieces before that point are whole, of those begun there the
-- files have no more than the first, and there were no more visits than the cycles up to it cost
pub record BreaksOff (a : Asking) (why : Unwritten) (r : Run) (w : Option Showing)
    (outside later : Outside) (spent : Spent) : Type 0 where
  pub point : BreakPoint
  pub is_point : IsPointOf r point
  pub between : Outside
  pub whole : AddsAll a.names (pieces_before a r w point) outside between
  pub falls : Falls a.names why (pieces_begun a r w point) between later
  pub within : OnTrue spent.is_counted (spent.after ≤ spent.before + visits_begun a r point)

-- ---- the end

-- the run has its verdict, and its records were counted
pub record HasEnded (r : Run) (old new : Going) (ending : Ending) : Type 0 where
  pub verdict : IsVerdict ending r.verdict
  pub cycles : new.cycles ≡ old.cycles + length r.cycles
  pub counted : new.counted ≡ option_map (counts_of r.cycles) old.counted

-- there were no more visits than all its cycles and the verdict cost
abbrev pub CostsCycles : Asking → Run → Spent → Type 0
CostsCycles a r spent =
    OnTrue spent.is_counted
    (spent.after
    ≤ spent.before + (sum_by (cycle_visits a.tree) r.cycles + last_visits a.tree r.verdict r.left))

-- and than the state costs that is saved
abbrev pub CostsAll : Asking → Run → Spent → Type 0
CostsAll a r spent =
    OnTrue spent.is_counted (spent.after ≤ spent.before + visits_begun a r after_cycles)

-- all but the last frame and the state was written
pub record IsWritten (a : Asking) (r : Run) (old new : Going) (outside later : Outside)
    (spent : Spent) : Type 0 where
  pub adds : AddsAll a.names (cycles_pieces a.tree a.letters old.drawn r.cycles) outside later
  pub drawn : new.drawn ≡ drawn_after r.cycles old.drawn
  pub within : CostsCycles a r spent

-- the run goes to its end, or breaks off
abbrev pub RunsTo : Asking → Run → Going → Going → Outside → Outside → Spent
    → Result Ending Unwritten → Type 0
RunsTo a r old new outside later spent (Ok ending) =
    HasEnded r old new ending × IsWritten a r old new outside later spent
RunsTo a r old new outside later spent (Err why) =
    BreaksOff a why r old.drawn outside later spent

-- the same with the last frame and the state
abbrev pub RunsWhole : Asking → Run → Going → Going → Outside → Outside → Spent
    → Result Ending Unwritten → Type 0
RunsWhole a r old new outside later spent (Ok ending) =
    HasEnded r old new ending
    × AddsAll a.names
    (run_pieces a.tree a.letters old.drawn r.cycles (saved_text a.end a.tree r)) outside later
    × CostsAll a r spent
RunsWhole a r old new outside later spent (Err why) =
    BreaksOff a why r old.drawn outside later spent
