-- What the program answers to a run that is saved, to the run on from that file, and to the one run
-- that goes so far: the files of the two, one behind the other, are those of the one.
use Rattle.std.specs.Prelude.{◌≡◌, ℕ, ◌+◌, ◌≤◌, Option, Some, None, List, [], ◌∷◌, ◌++◌, length, Ok}
use Rattle.std.specs.List.{All}
use Rattle.quantity.specs.declared.bounds.TheConstants.{MAX_LOG_BYTES}
use Rattle.quantity.specs.Bytes.{Bytes}
use Rattle.quantity.specs.TimeBounds.{IsDelay}
use Rattle.model_tree.specs.Tree.{Word, Tree}
use Rattle.run_model.specs.Run.{Event, Run}
use Rattle.run_model.specs.Bounds.{IsBoundedEvent}
use Rattle.text_forms.specs.Lines.{line_with_end}
use Rattle.text_forms.specs.StateText.{text_of_state}
use Rattle.text_forms.specs.StateOf.{Saved, state_of}
use Rattle.answer_model.specs.Answer.{MadeFiles, Answer}
use Rattle.answer_model.specs.Asked.{Asked, file}
use Rattle.answer_model.specs.RunEnd.{end_line}
use Rattle.answer_model.specs.Cdpp.{run_on, answer_from}
use Rattle.answer_model.specs.declared.status.Status.TheVariants.{Done}
use Rattle.saved_runs.specs.Accepted.{IsAccepted}

-- ---- three commands with the same options but for their ends and states

-- a run of a file's model, from a state if one is given, to this end, saved if that is asked
abbrev pub to_end : Asked → Word → ℕ → Option Word → Option Word → Asked
to_end a model end save state =
    record a { source = file model; end = end; seed = None; save = save; state = state }

-- the files of two runs, each of the second behind its own of the first; the last file of the first
-- run is its state, which is left out
abbrev pub joined_files : MadeFiles → MadeFiles → MadeFiles
joined_files [] gs = gs
joined_files (s ∷ []) gs = gs
joined_files (f ∷ fs) [] = f ∷ fs
joined_files (f ∷ fs) (g ∷ gs) = (f.0, f.1 ++ g.1) ∷ joined_files fs gs

-- the line of a run that is done, with its end and its number of cycles, where that is its status
abbrev pub Tells : ℕ → ℕ → Answer → Type 0
Tells end cycles a =
    a.status ≡ Done → (r : Run) × (length r.cycles ≡ cycles)
    × (a.shown ≡ line_with_end (end_line end r.cycles))

-- the answers to the two runs are, one behind the other, the answer to the one: log, output and
-- frames follow each other, the state saved at the end, the status and the complaint are those of
-- the second, and the numbers of cycles add up
pub record AnswerAsOne (first last : ℕ) (begun more whole : Answer) : Type 0 where
  pub made : whole.made ≡ joined_files begun.made more.made
  pub status : whole.status ≡ more.status
  pub complained : whole.complained ≡ more.complained
  pub before : ℕ
  pub after : ℕ
  pub tells_before : Tells first before begun
  pub tells_after : Tells last after more
  pub tells_all : Tells last (before + after) whole

-- the state that a file of a done run holds
abbrev pub text_left : Tree → List Event → ℕ → ℕ → Bytes
text_left tree events end limit =
    text_of_state tree end (run_on tree events end limit None).left.leaf_states

-- of an accepted model and bounded events: where the first run is done and its state is not too
-- long to be read, that state is read as what was saved, and the answers are as one
abbrev pub AnswersAsOne : Type 0
AnswersAsOne =
    (a : Asked) (tree : Tree) (events : List Event) (model name : Word) (save : Option Word)
    (first last : ℕ) (i j k : List Word)
    → IsAccepted tree → All IsBoundedEvent events → first ≤ last → IsDelay last
    → (answer_from (to_end a model first (Some name) None) tree events i None).status ≡ Done
    → length (text_left tree events first a.limit) ≤ MAX_LOG_BYTES
    → (s : Saved) × (state_of (text_left tree events first a.limit) tree last ≡ Ok s)
    × AnswerAsOne first last
    (answer_from (to_end a model first (Some name) None) tree events i None)
    (answer_from (to_end a model last save (Some name)) tree events j (Some s))
    (answer_from (to_end a model last save None) tree events k None)
