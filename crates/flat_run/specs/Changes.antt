-- What a run starts from, and what is put before its first cycle.
use Rattle.std.specs.Prelude.{◌≡◌, ℕ, Option, None, List, replicate, slice_set, IsTrue}
use Rattle.atomic_face.specs.StockView.{Stocked}
use Rattle.event_list.specs.Events.{Event}
use Rattle.model_leaves.specs.declared.table.Model.{Model}
use Rattle.model_tree.specs.Tree.{Tree, ins_of, leaf_count}
use Rattle.model_tree.specs.Sound.{is_sound_model}
use Rattle.model_leaves.specs.Boxes.{BoxesStand}
use Rattle.run_model.specs.CellStep.{CellState}
use Rattle.run_model.specs.Cycle.{LeafState, cell_state}
use Rattle.run_model.specs.Waiting.{CellWaitsFrom}
use Rattle.run_model.specs.Fitting.{Fits, OfLeaf}
use Rattle.route_flat.specs.Nets.{Flat, RoutesOf}
use Rattle.sparse_cycle.specs.Feed.{AreAtInputs}
use Rattle.run_leaves.specs.Seated.{settings_in, tree_at}
pub use Rattle.run_leaves.specs.Saved.{is_cell_state, words_of}
use Rattle.run_leaves.specs.Standing.{Standing}

-- ---- the start

-- the plain tree of a model with these boxes
abbrev pub tree_with : Model → List Stocked → Tree
tree_with m stock = tree_at m (settings_in stock)

-- the routes are the model's, no leaf waits in the queue, each atomic leaf has a box of its own at
-- its start, and each event is at an input that there is
pub record StartsFrom (m : Model) (stock : List Stocked) (routes : Flat) (events : List Event)
    (waiting : List (Option ℕ)) : Type 0 where
  pub sound : IsTrue (is_sound_model (tree_with m stock))
  pub routes_are : RoutesOf (tree_with m stock) routes
  pub waits : waiting ≡ replicate (leaf_count (tree_with m stock)) None
  pub boxes : BoxesStand stock m
  pub at_inputs : AreAtInputs (ins_of (tree_with m stock)) events

-- ---- what is put

-- other events are left
abbrev pub with_events : Standing → List Event → Standing
with_events s events =
    record {
      model = s.model;
      settings = s.settings;
      state = record s.state { events = events };
      end = s.end;
      limit = s.limit;
      stopped = s.stopped;
    }

-- a leaf has another state
abbrev pub with_leaf_state : Standing → ℕ → LeafState → Standing
with_leaf_state s leaf x =
    record {
      model = s.model;
      settings = s.settings;
      state = record s.state { leaf_states = slice_set s.state.leaf_states leaf x };
      end = s.end;
      limit = s.limit;
      stopped = s.stopped;
    }

-- the leaf is a cell with so many ports and variables, and the times of its lists rise
pub record CanPut (tree : Tree) (leaf : ℕ) (c : CellState) : Type 0 where
  pub fits : OfLeaf tree leaf (λ l. Fits l (cell_state c))
  pub rising : CellWaitsFrom 0 c
