-- What a run is to be, and what is answered to it.
use Rattle.std.specs.Prelude.{◌≡◌, ℕ, Option, None, List, IsTrue}
use Rattle.std.specs.Option.{is_some}
use Rattle.model_tree.specs.Tree.{Word}
use Rattle.model_tree.specs.Sound.{is_sound_model}
use Rattle.run_model.specs.Fitting.{FitsTree}
use Rattle.run_model.specs.Run.{Event}
use Rattle.run_model.specs.Waiting.{StandsFrom}
use Rattle.text_forms.specs.StateOf.{Saved}
use Rattle.answer_model.specs.Options.{differ_all}
use Rattle.answer_model.specs.Asked as A
use Rattle.answer_model.specs.Answer.{Answer}
use Rattle.answer_model.specs.Cdpp.{begins, run_on}
use Rattle.answer_model.specs.RunFiles.{answer_of_run}
use Rattle.asked_words.specs.declared.asked.Asked.{Asked}
use Rattle.asked_words.specs.declared.group.GroupAt.{GroupAt}
use Rattle.asked_words.specs.Shown.{asked_of, made_names}
use Rattle.run_leaves.specs.Standing.{Standing, tree_in}
use Rattle.run_loop.specs.Groups.{IsFoundIn, CanShow}

-- a run of a sound model before its first cycle, from which all waits for later times, to the end
-- and with the limit that are asked for; the group that is drawn was found there, and its frames
-- can be drawn; and the names of the files differ
pub record MayRun (a : Asked) (drawn : Option GroupAt) (s : Standing) : Type 0 where
  pub low : ℕ
  pub stands : StandsFrom s.limit low s.state
  pub fits : FitsTree (tree_in s) s.state.leaf_states
  pub goes : s.stopped ≡ None
  pub end : s.end ≡ a.end
  pub limit : s.limit ≡ a.given.limit
  pub sound : IsTrue (is_sound_model (tree_in s))
  pub found : IsFoundIn s.model (asked_of a).frames drawn
  pub shows : CanShow (tree_in s) (asked_of a).frames
  pub names : IsTrue (differ_all (made_names a))

-- it stands at its start with these events; or, just where one is asked for, in a state that was
-- saved, with those of the events that are after it
pub record BeginsFrom (a : A.Asked) (events : List Event) (from : Option Saved) (s : Standing)
    : Type 0 where
  pub state : s.state ≡ begins (tree_in s) events from
  pub asked : is_some a.state ≡ is_some from

-- what is answered to it, where these files were looked for
abbrev pub answer_to : A.Asked → List Event → Option Saved → Standing → List Word → Answer
answer_to a events from s inputs =
    answer_of_run a (tree_in s) events from inputs (run_on (tree_in s) events a.end a.limit from)
