-- What a run starts from, once the model is read.
use Rattle.std.specs.Prelude.{◌≡◌, ℕ, true, Option, Some, None, List, IsTrue}
use Rattle.std.specs.Option.{is_some}
use Rattle.atomic_face.specs.StockView.{Stocked}
use Rattle.model_leaves.specs.declared.table.Model.{Model}
use Rattle.model_tree.specs.Tree.{Word, Tree}
use Rattle.model_leaves.specs.Models.{tree_of}
use Rattle.model_tree.specs.Sound.{is_sound_model}
use Rattle.model_leaves.specs.Boxes.{settings_of_stock, BoxesStand}
use Rattle.model_leaves.specs.Leaves.{OfTree}
use Rattle.route_flat.specs.declared.routes.Routes.{Routes}
use Rattle.route_flat.specs.Nets.{RoutesOf}
use Rattle.model_text.specs.Drawings.{drawing_refused}
use Rattle.run_model.specs.Fitting.{FitsTree}
use Rattle.run_model.specs.Run.{Event, start}
use Rattle.run_leaves.specs.Seated as seated
use Rattle.text_forms.specs.StateOf.{Saved}
use Rattle.run_leaves.specs.Standing.{Standing, tree_in}
use Rattle.state_file.specs.Loads.{resumed_from}
use Rattle.saved_runs.specs.Accepted.{IsRead}
use Rattle.answer_model.specs.Started.{drawing_of}
use Rattle.asked_words.specs.declared.asked.Asked.{Asked}
use Rattle.asked_words.specs.declared.group.GroupAt.{GroupAt}
use Rattle.asked_words.specs.Shown.{text_of_name, asked_of, IsInBounds}
use Rattle.run_loop.specs.Groups.{IsFoundIn}
use Rattle.run_loop.specs.Answers.{MayRun}

-- the tree of a model whose boxes are those of a stock
abbrev pub tree_on : Model → List Stocked → Tree
tree_on m stock = tree_of m (settings_of_stock stock)

-- what is asked for is within its bounds, and the model can be run: it is sound, and its atomic
-- components have boxes of their own
pub record CanRun (a : Asked) (stock : List Stocked) (m : Model) : Type 0 where
  pub bounds : IsInBounds a
  pub sound : is_sound_model (tree_on m stock) ≡ true
  pub boxes : BoxesStand stock m

-- it can be run by its own routes, and has what is to be drawn, whose group was found there
pub record MayStart (a : Asked) (stock : List Stocked) (m : Model) (routes : Routes)
    (group : Option GroupAt) : Type 0 where
  pub runs : CanRun a stock m
  pub routes_are : OfTree m (λ t. RoutesOf t routes)
  pub drawn : drawing_refused (drawing_of (asked_of a).frames) (tree_on m stock) ≡ None
  pub found : IsFoundIn m (asked_of a).frames group

-- ---- the run

-- a run stands at the start of a model whose boxes are those of a stock, with these events
pub record IsMadeOf (s : Standing) (m : Model) (stock : List Stocked) (events : List Event)
    (end limit : ℕ) : Type 0 where
  pub model : s.model ≡ m
  pub settings : s.settings ≡ seated.settings_in stock
  pub state : s.state ≡ start (tree_in s) events
  pub end_is : s.end ≡ end
  pub limit_is : s.limit ≡ limit
  pub goes : s.stopped ≡ None

-- the same with the end and the limit that are asked for
abbrev pub IsMadeFor : Asked → Model → List Stocked → List Event → Standing → Type 0
IsMadeFor a m stock events s = IsMadeOf s m stock events a.end a.given.limit

-- no cycle of it was made, and its states are those of a sound model: it may go on from another state
pub record MayGoOn (s : Standing) : Type 0 where
  pub fresh : (s.state.last ≡ None) × (s.stopped ≡ None) × (s.state.count ≡ 0)
  pub fits : FitsTree (tree_in s) s.state.leaf_states
  pub sound : IsTrue (is_sound_model (tree_in s))

-- a run at its start goes on from a state, if there is one
abbrev pub going_from : Standing → Option Saved → Standing
going_from s None = s
going_from s (Some saved) = resumed_from s saved

-- the run goes on from what a file of this name gives, if one is named, as some text is read
pub record IsResumed (name : Option Word) (s : Standing) (end : ℕ) (r : Standing) : Type 0 where
  pub from : Option Saved
  pub named : is_some name ≡ is_some from
  pub read : IsRead (tree_in s) end from
  pub goes : r ≡ going_from s from

-- each run of what may be started, from its start or from a state that is read, may be run
abbrev pub RunsMayRun : Type 0
RunsMayRun =
    (a : Asked) (stock : List Stocked) (m : Model) (routes : Routes) (group : Option GroupAt)
    (events : List Event) (s r : Standing) → MayStart a stock m routes group
    → IsMadeOf s m stock events a.end a.given.limit
    → IsResumed (text_of_name a.given.state) s a.end r → MayRun a group r
