-- The visits of leaves that the run which words ask for may cost: they follow from what is started.
use Rattle.std.specs.Prelude.{ℕ, ◌+◌, Bool, Option, Some, None, List, Result}
use Rattle.std.specs.Bool.{then_some}
use Rattle.std.specs.Option.{is_none}
use Rattle.room_edge.specs.Outside.{Files}
use Rattle.atomic_face.specs.declared.class.Class.{Class}
use Rattle.model_tree.specs.Tree.{Word, Tree, leaf_count}
use Rattle.run_model.specs.Visits.{visits}
use Rattle.answer_model.specs.Asked.{Asked}
use Rattle.answer_model.specs.Started.{Started, Stopped, by}
use Rattle.answer_model.specs.ByWords.{started_by_words}
use Rattle.answer_model.specs.RunOf.{run_of}

-- visits are counted but where the messages of a run are served in an order
abbrev pub is_counted : Asked → Bool
is_counted a = is_none a.seed

-- none without a run
abbrev pub no_visits : Stopped → Option ℕ
no_visits e = Some 0

-- each leaf once for a file of a state, where there is to be one: read, or saved
abbrev pub state_visits : Option Word → Tree → ℕ
state_visits None tree = 0
state_visits (Some name) tree = leaf_count tree

-- those of the reference run, with those of the states before it and after it
abbrev pub start_visits : Started → ℕ
start_visits s =
    state_visits s.asked.state s.tree + visits s.tree (run_of s) + state_visits s.asked.save s.tree

-- the same, where they are counted
abbrev pub counted_visits : Started → Option ℕ
counted_visits s = then_some (is_counted s.asked) (start_visits s)

abbrev pub visits_of_reading : Result Started Stopped → Option ℕ
visits_of_reading r = by no_visits r counted_visits

-- of what words ask for; nothing is said of them where they are not counted
abbrev pub visits_for : List Word → Files → List Class → Option ℕ
visits_for words files classes = visits_of_reading (started_by_words words files classes)
