-- The run of a model with events from its start.
use Rattle.std.specs.Prelude.{ℕ, List}
use Rattle.event_list.specs.Events.{Event}
use Rattle.model_tree.specs.Tree.{Tree}
use Rattle.run_model.specs.Run.{Run, run_to, start}

-- of a model with events, up to an end, with so many cycles at one instant
unfoldable pub run : Tree → List Event → ℕ → ℕ → Run
run tree events end limit = run_to tree end limit (start tree events)
