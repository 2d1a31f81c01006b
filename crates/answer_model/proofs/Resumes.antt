-- Runs that are saved and go on.
use Rattle.std.proofs.Common.{◌≡◌, ℕ, ◌+◌, ◌≤◌, Option, Some, None, List, ◌++◌, refl, ap, ◌∙◌, subst, arith}
use Rattle.std.specs.List.{All}
use Rattle.quantity.specs.declared.value.Value.{Value}
use Rattle.model_tree.specs.Tree.{Group, Tree}
use Rattle.run_model.specs.Cycle.{LeafState}
use Rattle.run_model.specs.Run.{Event, Cycle, resumed_state, Run, run_to, most_cycles}
use Rattle.run_model.specs.Runs.{Runs}
use Rattle.run_model.specs.Waiting.{StandsFrom}
use Rattle.run_model.specs.Joins.{IsJoined}
use Rattle.run_model.proofs.WaitingCycle.{start-stands, resumed-stands}
use Rattle.run_model.proofs.Ends.{runs-end, instants-of-runs}
use Rattle.run_model.proofs.Joins.{cycles-join, resumes-again}
use Rattle.text_forms.specs.Lines.{log_bytes, out_bytes}
use Rattle.text_forms.specs.Frames.{Picture, value_drawn, shown_in, frames_of}
use Rattle.text_forms.specs.StateText.{text_of_state}
use Rattle.text_forms.specs.StateOf.{Saved}
use Rattle.text_forms.proofs.Joins.{texts_join, frames_join}
use Rattle.text_forms.proofs.WrittenStates.{state_read}
use Rattle.answer_model.specs.RunFiles.{emitted_before}
use Rattle.answer_model.specs.Cdpp.{begins, run_on}
use Rattle.answer_model.specs.Resume.{MayBegin, saved_at, CyclesJoin, FilesJoin, MayBeSaved, RunsJoin}

-- ---- where a run may begin, it stands

abbrev low_of : Option Saved → ℕ
low_of None = 0
low_of (Some s) = s.time + 1

pub stands : (tree : Tree) (events : List Event) (limit end : ℕ) (from : Option Saved) → MayBegin from end → StandsFrom limit (low_of from) (begins tree events from)
stands tree events limit end None h = start-stands tree events limit
stands tree events limit end (Some s) h = resumed-stands s.time limit s.states events h.1

pub is_run : (tree : Tree) (events : List Event) (limit end : ℕ) (from : Option Saved) → MayBegin from end
    → Runs tree end limit (begins tree events from) (run_on tree events end limit from).cycles (run_on tree events end limit from).verdict (run_on tree events end limit from).left
unfolding run_on
is_run tree events limit end from h =
    runs-end (most_cycles end limit) tree end limit (low_of from) (begins tree events from) (stands tree events limit end from h) (omega arith)

-- ---- cycles

-- the run on from a saved state, whose events are those of the whole run
on_from : (tree : Tree) (events : List Event) (limit first last : ℕ) (from : Option Saved) → MayBegin from first → (states : List LeafState) → resumed_state first states (begins tree events from).events ≡ resumed_state first states events
on_from tree events limit first last None h states = refl
on_from tree events limit first last (Some s) h states = resumes-again s.time first states s.states events h.0

pub cycles_join : CyclesJoin
unfolding run_on
cycles_join tree events limit first last from h le is =
    let s = begins tree events from in
    let here = run_to tree first limit s in
    subst (λ r. IsJoined first here (run_to tree last limit r) (run_to tree last limit s)) (on_from tree events limit first last from h here.left.leaf_states)
    (cycles-join tree first last limit (low_of from) s (stands tree events limit first from h) (fresh tree events from) le is)
  where
    fresh : (tree : Tree) (events : List Event) (from : Option Saved) → (begins tree events from).last ≡ None
    fresh tree events None = refl
    fresh tree events (Some s) = refl

-- ---- files

module _ (tree : Tree) (from : Option Saved) (time : ℕ) (here rest whole : Run) (joined : IsJoined time here rest whole) (within : All (λ (c : Cycle). c.time ≤ time) here.cycles) where
  frames_on : (g : ℕ × Group) (p : Picture) (q : ℕ → Value) → p.space ≡ g.1.space → ((cell : ℕ) → value_drawn (emitted_before from g) (shown_in g.1.space g.0 here.cycles) time cell ≡ q cell)
      → frames_of p g.0 (emitted_before from g) whole.cycles ≡ frames_of p g.0 (emitted_before from g) here.cycles ++ frames_of p g.0 q rest.cycles
  frames_on g p q same shows =
      ap (frames_of p g.0 (emitted_before from g)) joined.cycles
      ∙ frames_join p g.0 (emitted_before from g) time here.cycles rest.cycles within joined.later
      ∙ ap (λ (start : ℕ → Value). frames_of p g.0 (emitted_before from g) here.cycles ++ frames_of p g.0 start rest.cycles) (λ i cell. (ap (λ space. value_drawn (emitted_before from g) (shown_in space g.0 here.cycles) time cell) same ∙ shows cell) i)

  files_join : MayBeSaved tree from time here → FilesJoin tree from (saved_at time here) here rest whole
  files_join may =
      record {
        log = λ letters. ap (log_bytes tree letters) joined.cycles ∙ texts_join.log tree letters here.cycles rest.cycles;
        out = ap (out_bytes tree) joined.cycles ∙ texts_join.out tree here.cycles rest.cycles;
        frames = λ name g p is same. frames_on g p (emitted_before (Some (saved_at time here)) g) same (λ cell. may.shows name g cell is);
        state = λ end. ap (text_of_state tree end) joined.leaves;
        verdict = joined.verdict;
      }

pub runs_join : RunsJoin
runs_join tree events limit first last from h le end is may =
    let here = run_on tree events first limit from in
    let rest = run_on tree events last limit (Some (saved_at first here)) in
    let whole = run_on tree events last limit from in
    let within = (instants-of-runs tree first limit (low_of from) (begins tree events from) here.left here.cycles here.verdict (stands tree events limit first from h) (is_run tree events limit first from h)).within in
    record {
      read = state_read tree first last here.left.leaf_states may.names le end may.states may.size;
      files = files_join tree from first here rest whole (cycles_join tree events limit first last from h le is) within may;
    }
