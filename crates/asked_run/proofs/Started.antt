-- A run before its first cycle, from what is asked for and what was read.
use Rattle.std.proofs.Common.{◌≡◌, ℕ, ◌+◌, ◌≤◌, Bool, true, Option, Some, None, List, [], map, refl, sym, ap, ◌∙◌, subst}
use Rattle.std.specs.Prelude.{IsTrue, unwrap_or, replicate}
use Rattle.std.specs.Bool.{OnTrue}
use Rattle.std.specs.Option.{is_some}
use Rattle.std.proofs.lemmas.Bool.{OnTrue_at, OnTrue_from}
use Rattle.std.proofs.lemmas.Option.{slice_get-map, unwrap_or-slice_get}
use Rattle.atomic_face.specs.StockView.{Stocked}
use Rattle.model_leaves.specs.declared.table.Model.{Model}
use Rattle.model_leaves.specs.Leaves.{OfTree}
use Rattle.model_tree.specs.Tree.{Word, Tree, ins_of, leaf_count}
use Rattle.model_leaves.specs.Models.{tree_of}
use Rattle.model_tree.specs.Sound.{is_sound_model}
use Rattle.model_leaves.specs.Boxes.{settings_of_stock}
use Rattle.run_leaves.specs.Seated as S
use Rattle.run_leaves.specs.Seated.{settings_at}
use Rattle.run_model.specs.Fitting.{FitsTree, StartFits}
use Rattle.run_model.specs.Instants.{StartStands, ResumedStands}
use Rattle.run_model.specs.Run.{Event, RunState, resumed_state, run_from, most_cycles}
use Rattle.run_model.specs.Waiting.{StandsFrom}
use Rattle.text_forms.specs.StateOf.{Saved}
use Rattle.route_flat.specs.declared.routes.Routes.{Routes}
use Rattle.route_flat.specs.Nets.{RoutesOf}
use Rattle.sparse_cycle.specs.Feed.{AreAtInputs}
use Rattle.flat_run.specs.Changes.{tree_with, StartsFrom}
use Rattle.run_leaves.specs.Standing.{Standing, tree_in}
use Rattle.state_file.specs.ReadStates.{ReadStatesFit}
use Rattle.saved_runs.specs.Accepted.{IsRead}
use Rattle.asked_words.specs.declared.asked.Asked.{Asked}
use Rattle.asked_words.specs.declared.group.GroupAt.{GroupAt}
use Rattle.asked_words.specs.Shown.{text_of_name, asked_of}
use Rattle.answer_model.specs.RunOf as answered
use Rattle.answer_model.specs.Cdpp.{begins, run_on, answer_from, start_answer}
use Rattle.answer_model.specs.Resume.{StatesMayBegin}
use Rattle.answer_model.specs.Started.{Started}
use Rattle.answer_model.specs.Visits.{is_counted, state_visits, start_visits}
use Rattle.run_model.specs.Visits.{visits}
use Rattle.run_loop.specs.Groups.{IsFoundIn, CanShow}
use Rattle.run_loop.specs.Answers.{MayRun, BeginsFrom, answer_to}
use Rattle.run_loop.specs.Left.{rest_of}
use Rattle.asked_run.specs.Starting.{tree_on, CanRun, MayStart, IsMadeOf, MayGoOn, going_from, RunsMayRun}
use Rattle.asked_run.specs.Stages.{StandsAt}
use Rattle.asked_run.proofs.Shown.{bounded, can_show}

-- ---- settings, as a function and as a list

same_settings : (stock : List Stocked) (n : ℕ) → settings_at (S.settings_in stock) n ≡ settings_of_stock stock n
same_settings stock n =
    let words = λ (s : Stocked). s.box.settings in
    sym (unwrap_or-slice_get (map words stock) n []) ∙ ap (λ o. unwrap_or o []) (slice_get-map words stock n)

pub same_tree : (m : Model) (stock : List Stocked) → tree_with m stock ≡ tree_on m stock
same_tree m stock = ap (tree_of m) (λ i n. same_settings stock n i)

-- ---- what the run starts from

pub starts_from : (a : Asked) (stock : List Stocked) (m : Model) (routes : Routes) (events : List Event) (leaves : ℕ) (waiting : List (Option ℕ)) → CanRun a stock m → OfTree m (λ t. RoutesOf t routes) → AreAtInputs (ins_of (tree_on m stock)) events
    → ((settings : ℕ → _) → leaves ≡ leaf_count (tree_of m settings)) → waiting ≡ replicate leaves None → StartsFrom m stock routes events waiting
starts_from a stock m routes events leaves waiting may routed at counted waits =
    let same = sym (same_tree m stock) in
    record {
      sound = subst (λ (t : Tree). IsTrue (is_sound_model t)) same may.sound;
      routes_are = routed (settings_at (S.settings_in stock));
      waits = waits ∙ ap (λ n. replicate n None) (counted (settings_at (S.settings_in stock)));
      boxes = may.boxes;
      at_inputs = subst (λ (t : Tree). AreAtInputs (ins_of t) events) same at;
    }

-- a served run starts from the same
pub sound_with : (a : Asked) (stock : List Stocked) (m : Model) → CanRun a stock m → IsTrue (is_sound_model (tree_with m stock))
sound_with a stock m may = subst (λ (t : Tree). IsTrue (is_sound_model t)) (sym (same_tree m stock)) may.sound

pub inputs_with : (m : Model) (stock : List Stocked) (events : List Event) → AreAtInputs (ins_of (tree_on m stock)) events → AreAtInputs (ins_of (tree_with m stock)) events
inputs_with m stock events at = subst (λ (t : Tree). AreAtInputs (ins_of t) events) (sym (same_tree m stock)) at

-- where it stands is the same, whichever way it is made
pub made_as : (s r : Standing) (m : Model) (stock : List Stocked) (events : List Event) (end limit : ℕ) → r ≡ s → IsMadeOf s m stock events end limit → IsMadeOf r m stock events end limit
made_as s r m stock events end limit same made = subst (λ (x : Standing). IsMadeOf x m stock events end limit) (sym same) made

-- ---- a run at its start

module _ (s : Standing) (m : Model) (stock : List Stocked) (events : List Event) (end limit : ℕ) (made : IsMadeOf s m stock events end limit) where
  pub tree_made : tree_in s ≡ tree_on m stock
  tree_made = (λ i. tree_of (made.model i) (settings_at (made.settings i))) ∙ same_tree m stock

  events_made : s.state.events ≡ events
  events_made = ap (λ (r : RunState). r.events) made.state

  pub may_go_on : (a : Asked) → CanRun a stock m → StartFits → MayGoOn s
  may_go_on a may fits =
      record {
        fresh = (ap (λ (r : RunState). r.last) made.state, made.goes, ap (λ (r : RunState). r.count) made.state);
        fits = subst (λ (r : RunState). FitsTree (tree_in s) r.leaf_states) (sym made.state) (fits (tree_in s) events);
        sound = subst (λ (t : Tree). is_sound_model t ≡ true) (sym tree_made) may.sound;
      }

  -- where it goes on from a state, or from its start, it stands
  pub begun : (from : Option Saved) → (going_from s from).state ≡ begins (tree_in (going_from s from)) events from
  begun None = made.state
  begun (Some saved) = ap (resumed_state saved.time saved.states) events_made

  same_tree_on : (from : Option Saved) → tree_in (going_from s from) ≡ tree_in s
  same_tree_on None = refl
  same_tree_on (Some saved) = refl

  pub stands_on : (a : Asked) (from : Option Saved) (inputs : List Word) → is_some (text_of_name a.given.state) ≡ is_some from
      → StandsAt a (going_from s from) (record { asked = asked_of a; tree = tree_on m stock; events = events; from = from; inputs = inputs })
  stands_on a from inputs named =
      record {
        asked_is = refl;
        tree_is = same_tree_on from ∙ tree_made;
        begins = record { state = begun from; asked = named };
      }

pub stands_at : (a : Asked) (s r : Standing) (m : Model) (stock : List Stocked) (events : List Event) (from : Option Saved) (inputs : List Word) → IsMadeOf s m stock events a.end a.given.limit → is_some (text_of_name a.given.state) ≡ is_some from → r ≡ going_from s from
    → StandsAt a r (record { asked = asked_of a; tree = tree_on m stock; events = events; from = from; inputs = inputs })
stands_at a s r m stock events from inputs made named goes =
    subst (λ (x : Standing). StandsAt a x (record { asked = asked_of a; tree = tree_on m stock; events = events; from = from; inputs = inputs })) (sym goes)
    (stands_on s m stock events a.end a.given.limit made a from inputs named)

-- ---- it may be run

-- where its states stand and fit the model
may_run_at : (a : Asked) (s : Standing) (m : Model) (stock : List Stocked) (routes : Routes) (group : Option GroupAt) (low : ℕ) → MayStart a stock m routes group → tree_in s ≡ tree_on m stock → s.model ≡ m → s.end ≡ a.end → s.limit ≡ a.given.limit → s.stopped ≡ None
    → StandsFrom s.limit low s.state → FitsTree (tree_in s) s.state.leaf_states → MayRun a group s
may_run_at a s m stock routes group low may tree model end limit goes stands fits =
    record {
      low = low;
      stands = stands;
      fits = fits;
      goes = goes;
      end = end;
      limit = limit;
      sound = subst (λ (t : Tree). is_sound_model t ≡ true) (sym tree) may.runs.sound;
      found = subst (λ (x : Model). IsFoundIn x (asked_of a).frames group) (sym model) may.found;
      shows = subst (λ (t : Tree). CanShow t (asked_of a).frames) (sym tree) (can_show (tree_on m stock) (asked_of a).frames may.runs.sound (bounded a.frames may.runs.bounds.frames) may.drawn);
      names = may.runs.bounds.names;
    }

module _ (start_stands : StartStands) (resumed_stands : ResumedStands) (may_begin : StatesMayBegin) (start_fits : StartFits) (read_fit : ReadStatesFit) where
  going_runs : (a : Asked) (stock : List Stocked) (m : Model) (routes : Routes) (group : Option GroupAt) (events : List Event) (s : Standing) (from : Option Saved) → MayStart a stock m routes group → IsMadeOf s m stock events a.end a.given.limit → IsRead (tree_in s) a.end from
      → MayRun a group (going_from s from)
  going_runs a stock m routes group events s None may made read =
      let tree = tree_made s m stock events a.end a.given.limit made in
      may_run_at a s m stock routes group 0 may tree made.model made.end_is made.limit_is made.goes (subst (StandsFrom s.limit 0) (sym made.state) (start_stands (tree_in s) events s.limit))
      (may_go_on s m stock events a.end a.given.limit made a may.runs start_fits).fits
  going_runs a stock m routes group events s (Some saved) may made (bytes, is) =
      let tree = tree_made s m stock events a.end a.given.limit made in
      let sound = (may_go_on s m stock events a.end a.given.limit made a may.runs start_fits).sound in
      may_run_at a (going_from s (Some saved)) m stock routes group (saved.time + 1) may tree made.model made.end_is made.limit_is made.goes
      (resumed_stands saved.time s.limit saved.states s.state.events (may_begin bytes (tree_in s) a.end saved is).1) (read_fit bytes (tree_in s) a.end saved sound is)

  pub runs_may_run : RunsMayRun
  runs_may_run a stock m routes group events s r may made goes =
      subst (λ (x : Standing). MayRun a group x) (sym goes.goes) (going_runs a stock m routes group events s goes.from may made goes.read)

-- ---- the run is that of what is started

module _ (a : Asked) (group : Option GroupAt) (r : Standing) (s : Started) (may : MayRun a group r) (at_start : StandsAt a r s) where
  pub begins_asked : BeginsFrom (asked_of a) s.events s.from r
  begins_asked = subst (λ x. BeginsFrom x s.events s.from r) (sym at_start.asked_is) at_start.begins

  -- what is answered to the run
  pub same_answer : answer_to (asked_of a) s.events s.from r s.inputs ≡ start_answer s
  same_answer = λ i. answer_from (at_start.asked_is i) (at_start.tree_is i) s.events s.inputs s.from

  pub same_run : rest_of (most_cycles a.end a.given.limit) r ≡ answered.run_of s
  unfolding run_on
  same_run =
      (λ i. run_from (most_cycles a.end a.given.limit) (tree_in r) (may.end i) (may.limit i) (at_start.begins.state i))
      ∙ (λ i. run_on (at_start.tree_is i) s.events (at_start.asked_is i).end (at_start.asked_is i).limit s.from)

  -- what it may cost, with its states
  pub same_visits : (let x = asked_of a in state_visits x.state (tree_in r) + visits (tree_in r) (rest_of (most_cycles a.end a.given.limit) r) + state_visits x.save (tree_in r)) ≡ start_visits s
  same_visits =
      λ i. state_visits (at_start.asked_is i).state (at_start.tree_is i) + visits (at_start.tree_is i) (same_run i) + state_visits (at_start.asked_is i).save (at_start.tree_is i)

-- the bound, where visits are counted
pub visits_started : (a : Asked) (group : Option GroupAt) (r : Standing) (s : Started) (counted : Bool) (before after : ℕ) → MayRun a group r → StandsAt a r s → (is_counted (asked_of a) ≡ true → counted ≡ true)
    → (let x = asked_of a in OnTrue counted (after ≤ before + (state_visits x.state (tree_in r) + visits (tree_in r) (rest_of (most_cycles a.end a.given.limit) r) + state_visits x.save (tree_in r))))
    → OnTrue (is_counted s.asked) (after ≤ before + start_visits s)
visits_started a group r s counted before after may at_start less within =
    subst (λ x. OnTrue (is_counted x) (after ≤ before + start_visits s)) at_start.asked_is
    (OnTrue_from (is_counted (asked_of a)) _ (λ on. subst (λ (k : ℕ). after ≤ before + k) (same_visits a group r s may at_start) (OnTrue_at (less on) within)))
