-- The three laws for accepted models.
use Rattle.std.proofs.Common.{◌≡◌, ℕ, ◌+◌, ◌<◌, ◌≤◌, Bool, true, false, cond, Option, Some, None}
use Rattle.std.proofs.Common.{List, [], ◌∷◌, length, refl, sym, ap, ◌∙◌, subst, arith}
use Rattle.std.specs.Prelude.{nat_lt, slice_get, IsTrue}
use Rattle.std.specs.List.{All, list_all}
use Rattle.std.proofs.lemmas.List.{length-append}
use Rattle.std.proofs.lemmas.List.Elements.{All-head, All-tail, All-filter}
use Rattle.std.proofs.lemmas.Bool.Decides.{nat_tests}
use Rattle.quantity.specs.declared.value.Value.TheVariants.{Undefined}
use Rattle.quantity.specs.TimeBounds.{IsDelay}
use Rattle.cell_grid.specs.Space.{cell_count}
use Rattle.model_tree.specs.Tree.{Word, Group, Tree, Leaf, leaves}
use Rattle.run_model.specs.Cycle.{LeafState}
use Rattle.run_model.specs.Run.{Event, Cycle, done, most_cycles}
use Rattle.run_model.specs.Runs.{Runs}
use Rattle.run_model.specs.Waiting.{StandsFrom}
use Rattle.run_model.specs.Instants.{StartStands, ResumedStands, RunsEnd, InstantsOfRuns}
use Rattle.run_model.specs.Instants.{DoneRunsLeaveLater}
use Rattle.run_model.specs.Bounds.{IsBoundedEvent, IsBoundedState, StartIsBounded, RunsAreBounded}
use Rattle.run_model.specs.Fitting.{FitsTree, OfLeaf, StartFits, RunsFit}
use Rattle.run_model.specs.Emitted.{emitted_at, last_given, IsCell, EmitsWhatItGives}
use Rattle.run_model.proofs.Basics.{both_are}
use Rattle.text_forms.specs.LogLine.{is_leaf}
use Rattle.text_forms.specs.Lines.{leaf_name}
use Rattle.text_forms.specs.LeafNames.{IsNamed}
use Rattle.text_forms.specs.StateOfLeaf.{has_names}
use Rattle.text_forms.specs.ReadBack.{ReadsWhatIsWritten, ReadsNothingElse}
use Rattle.text_forms.specs.StateOf.{Saved}
use Rattle.text_forms.specs.Frames.{value_drawn, shown_in}
use Rattle.saved_runs.specs.Settled.{IsInState}
use Rattle.saved_runs.specs.Kept.{StartIsInState, RunsKeepStates, StatesAreSmall, StatesAreBounded}
use Rattle.answer_model.specs.AcceptedRuns.{ModelsAreBounded, ModelsAreNamed}
use Rattle.answer_model.specs.RunFiles.{emitted_of, emitted_before}
use Rattle.answer_model.specs.Cdpp.{begins, run_on}
use Rattle.answer_model.specs.Resume as R
use Rattle.answer_model.specs.Resume.{MayBegin, StatesMayBegin, saved_at, ShowsEmitted}
use Rattle.saved_runs.specs.Accepted.{IsAccepted, IsRead, ModelsAreSettled, ModelsHaveValues}
use Rattle.saved_runs.specs.Accepted.{GroupsStand}
use Rattle.saved_runs.specs.TextOnce.{TextOnce}
use Rattle.saved_runs.specs.Joined.{DoneRunsLeaveAState, CyclesJoin, RunsJoin}
use Rattle.saved_runs.proofs.Left.{states-after, states-of, states-go, AllMayGoOn}
use Rattle.saved_runs.proofs.Read.{state_read}
use Rattle.saved_runs.proofs.Shown.{value_shown, emitted_is, nothing_emitted}

-- ---- names

names-are : (ls : List Leaf) → All IsNamed ls → list_all (λ l. is_leaf (leaf_name l)) ls ≡ true
names-are [] h = refl
names-are (l ∷ ls) h = both_are (is_leaf (leaf_name l)) (list_all (λ l. is_leaf (leaf_name l)) ls)
    (All-head IsNamed l ls h).leaf (names-are ls (All-tail IsNamed l ls h))

pub names-of : ModelsAreNamed → (t : Tree) → IsAccepted t → IsTrue (has_names t)
names-of named t a = names-are (leaves t) (named a.bytes a.files a.classes a.drawing t a.found)

-- ---- the text of a state

pub text-once : ReadsWhatIsWritten → ReadsNothingElse → ModelsAreSettled → ModelsAreNamed
    → StatesAreSmall → TextOnce
text-once reads nothing settled named small tree time end states a le early h size = record {
  read = reads.state tree time end states (names-of named tree a) le early
      (states-of small time (leaves tree) states (settled tree a) h) size;
  only = λ bytes e. nothing.state tree end bytes (record { time = time; states = states }) e;
}

-- ---- where a run begins

-- what the laws of done runs stand on
pub record Facts : Type 0 where
  pub settled : ModelsAreSettled
  pub valued : ModelsHaveValues
  pub bounded : ModelsAreBounded
  pub groups : GroupsStand
  pub start_state : StartIsInState
  pub keeps_states : RunsKeepStates
  pub states_bounded : StatesAreBounded
  pub start_bounded : StartIsBounded
  pub runs_bounded : RunsAreBounded
  pub start_fits : StartFits
  pub runs_fit : RunsFit
  pub start_stands : StartStands
  pub resumed_stands : ResumedStands
  pub ends : RunsEnd
  pub later : DoneRunsLeaveLater
  pub instants : InstantsOfRuns
  pub emits : EmitsWhatItGives
  pub may_begin : StatesMayBegin

pub may-begin : StatesMayBegin → (t : Tree) (end : ℕ) (from : Option Saved) → IsRead t end from
    → MayBegin from end
may-begin may t end None h = tt
may-begin may t end (Some s) h = may h.0 t end s h.1

-- what is known of the state in which a run begins
record Begins (t : Tree) (events : List Event) (limit : ℕ) (from : Option Saved) : Type 0 where
  low : ℕ
  stands : StandsFrom limit low (begins t events from)
  fits : FitsTree t (begins t events from).leaf_states
  small : IsBoundedState (begins t events from)
  state : All IsInState (begins t events from).leaf_states
  emitted : (g : ℕ × Group) (cell : ℕ) → nat_lt cell (cell_count g.1.space) ≡ true
      → OfLeaf t (g.0 + cell) IsCell → emitted_at (begins t events from).leaf_states (g.0 + cell)
      ≡ emitted_before from g cell

begins-so : Facts → (t : Tree) (events : List Event) (limit end : ℕ) (from : Option Saved)
    → IsAccepted t → All IsBoundedEvent events → IsRead t end from → Begins t events limit from
begins-so f t events limit end None a good h = record {
  low = 0;
  stands = f.start_stands t events limit;
  fits = f.start_fits t events;
  small = f.start_bounded t events (f.bounded a.bytes a.files a.classes a.drawing t a.found) good;
  state = f.start_state t events (f.settled t a);
  emitted = λ g cell below there. nothing_emitted (leaves t) (g.0 + cell) there;
}
begins-so f t events limit end (Some s) a good h =
    let read = state_read t end h.0 s h.1 in
    let go : AllMayGoOn (leaves t) s.states =
    states-go f.states_bounded s.time (leaves t) s.states (f.settled t a) (f.valued t a) read.1
    in
    record {
      low = s.time + 1;
      stands = f.resumed_stands s.time limit s.states events (f.may_begin h.0 t end s h.1).1;
      fits = go.fits;
      small = record {
        leaves = go.small;
        events =
            All-filter (λ (e : Event). nat_lt s.time e.time) IsBoundedEvent events good;
      };
      state = go.state;
      emitted = λ g cell below there. sym (emitted_is s.states (g.0 + cell))
          ∙ sym (ap (λ b. cond b (emitted_of (slice_get s.states (g.0 + cell))) Undefined) below);
    }

-- ---- what a run that is done leaves

nothing_outside : (from : Option Saved) (g : ℕ × Group) (cell : ℕ)
    → nat_lt cell (cell_count g.1.space) ≡ false → emitted_before from g cell ≡ Undefined
nothing_outside None g cell e = refl
nothing_outside (Some s) g cell e =
    ap (λ b. cond b (emitted_of (slice_get s.states (g.0 + cell))) Undefined) e

below : (a b : ℕ) → nat_lt a b ≡ true → a < b
below a b h = grind (arith, nat_tests)

abbrev IsWithin : ℕ → Cycle → Type 0
IsWithin end c = c.time ≤ end

shows : (t : Tree) (from : Option Saved) (end : ℕ) (cs : List Cycle) (before after : List LeafState)
    (name : Word) (g : ℕ × Group) (cell : ℕ) → All (IsWithin end) cs
    → ((cell : ℕ) → cell < cell_count g.1.space → OfLeaf t (g.0 + cell) IsCell)
    → ((cell : ℕ) → nat_lt cell (cell_count g.1.space) ≡ true → OfLeaf t (g.0 + cell) IsCell
    → emitted_at before (g.0 + cell) ≡ emitted_before from g cell)
    → ((leaf : ℕ) → OfLeaf t leaf IsCell
    → emitted_at after leaf ≡ last_given leaf cs (emitted_at before leaf))
    → value_drawn (emitted_before from g) (shown_in g.1.space g.0 cs) end cell
    ≡ emitted_before (Some (record { time = end; states = after })) g cell
shows t from end cs before after name g cell within cells begun emits =
    value_shown g.1.space g.0 end cell (emitted_before from g) cs within
    ∙ by (nat_lt cell (cell_count g.1.space)) refl
  where
    by : (b : Bool) → nat_lt cell (cell_count g.1.space) ≡ b
        → cond b (last_given (g.0 + cell) cs (emitted_before from g cell))
        (emitted_before from g cell) ≡ cond b (emitted_of (slice_get after (g.0 + cell))) Undefined
    by true e =
        let there = cells cell (below cell (cell_count g.1.space) e) in
        ap (last_given (g.0 + cell) cs) (sym (begun cell e there)) ∙ sym (emits (g.0 + cell) there)
        ∙ sym (emitted_is after (g.0 + cell))
    by false e = nothing_outside from g cell e

is_run : RunsEnd → (t : Tree) (events : List Event) (limit end low : ℕ) (from : Option Saved)
    → StandsFrom limit low (begins t events from)
    → Runs t end limit (begins t events from) (run_on t events end limit from).cycles
    (run_on t events end limit from).verdict (run_on t events end limit from).left
unfolding run_on
is_run ends t events limit end low from stands =
    ends (most_cycles end limit) t end limit low (begins t events from) stands (omega arith)

pub leaves-a-state : Facts → DoneRunsLeaveAState
leaves-a-state f t events limit end from a good read early is =
    let b = begins-so f t events limit end from a good read in
    let r = run_on t events end limit from in
    let s = begins t events from in
    let runs = is_run f.ends t events limit end b.low from b.stands in
    let done_runs : Runs t end limit s r.cycles done r.left =
    subst (λ v. Runs t end limit s r.cycles v r.left) is runs in
    let model = f.bounded a.bytes a.files a.classes a.drawing t a.found in
    let fit = (f.runs_fit t end limit s r.left r.cycles r.verdict b.fits runs).1 in
    let small = (f.runs_bounded t end limit s r.left r.cycles r.verdict model early b.small runs).1
    in
    let state = f.keeps_states t end limit s r.left r.cycles r.verdict model early b.small b.state
    runs in
    let later = f.later t end limit b.low s r.left r.cycles b.stands done_runs in
    let within = (f.instants t end limit b.low s r.left r.cycles r.verdict b.stands runs).within in
    record {
      states = states-after end (leaves t) r.left.leaf_states fit later.leaves small.leaves state
          (f.valued t a);
      shows = λ name g cell found.
          shows t from end r.cycles s.leaf_states r.left.leaf_states name g cell within
          (λ k lt. f.groups t name g k found lt) (λ k lt there. b.emitted g k lt there)
          (λ leaf there. f.emits t end limit b.low leaf s r.left r.cycles r.verdict b.stands b.fits
          there runs);
    }

-- ---- cycles

early_first : (first last : ℕ) → first ≤ last → IsDelay last → IsDelay first
early_first first last le early = omega arith

pub cycles-join : DoneRunsLeaveAState → R.CyclesJoin → StatesMayBegin → CyclesJoin
cycles-join leave joins may t events limit first last from a good read le early is = record {
  joined = joins t events limit first last from (may-begin may t first from read) le is;
  states = (leave t events limit first from a good read (early_first first last le early)
      is).states;
}

-- ---- files

pub runs-join : DoneRunsLeaveAState → ModelsAreNamed → ModelsAreSettled → StatesAreSmall
    → R.CyclesJoin → R.RunsJoin → StatesMayBegin → RunsJoin
runs-join leave named settled few joins files may t events limit first last from a good read le
    early is size =
    let here = run_on t events first limit from in
    let begins = may-begin may t first from read in
    let left = leave t events limit first from a good read (early_first first last le early) is in
    let joined = joins t events limit first last from begins le is in
    let rest = run_on t events last limit (Some (saved_at first here)) in
    record {
      files = files t events limit first last from begins le early is
          (record {
            names = names-of named t a;
            states =
                states-of few first (leaves t) here.left.leaf_states (settled t a) left.states;
            size =
                size;
            shows = left.shows;
          });
      cycles = ap length joined.cycles ∙ length-append here.cycles rest.cycles;
    }
