-- What holds of all answers.
use Rattle.std.specs.Prelude.{◌≡◌, List, []}
use Rattle.atomic_face.specs.declared.class.Class.{Class}
use Rattle.model_tree.specs.Tree.{Word}
use Rattle.room_edge.specs.Outside.{Files}
use Rattle.answer_model.specs.Answer.{Answer}
use Rattle.answer_model.specs.Cdpp.{answer}
use Rattle.answer_model.specs.Drawlog.{drawing_answer}
use Rattle.answer_model.specs.OutcomeLaws.{IsOwn}
use Rattle.answer_model.specs.StatusNumbers.{of_refusals}
use Rattle.answer_model.specs.Status.{IsOf}

-- what every answer keeps to
pub record IsAnswer (a : Answer) : Type 0 where
  -- the status is never that of a fault or of want of memory
  pub own : IsOwn a.status
  -- where words or files are refused, nothing is made or shown
  pub nothing : IsOf of_refusals a.status → (a.made ≡ []) × (a.shown ≡ [])

-- the answers of both programs keep to it
pub record AllAreAnswers : Type 0 where
  pub cdpp : (words : List Word) (files : Files) (classes : List Class)
      → IsAnswer (answer words files classes)
  pub drawlog : (words : List Word) (files : Files) → IsAnswer (drawing_answer words files)
