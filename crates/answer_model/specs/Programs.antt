-- How the two programs end: where the files are told, by the outcome of the answer; and by the
-- causes of each status, also where nothing is told. Cited by the clauses `ends` and `causes` of
-- `cdpp` and `drawlog`.
use Rattle.std.specs.Prelude.{List, IfSome}
use Rattle.atomic_face.specs.declared.class.Class.{Class}
use Rattle.model_tree.specs.Tree.{Word}
use Rattle.room_edge.specs.Outside.{Outside}
use Rattle.answer_model.specs.Asked.{asked_by_words}
use Rattle.answer_model.specs.AskedDrawing.{asked_drawing}
use Rattle.answer_model.specs.Cdpp.{answer}
use Rattle.answer_model.specs.Drawlog.{drawing_answer}
use Rattle.answer_model.specs.Outcome.{Outcome, Causes}
use Rattle.answer_model.specs.declared.status.Status.{Status}
use Rattle.answer_model.specs.Status.{of_cdpp, of_drawlog}

-- ---- cdpp

-- where the files are told, the call comes to an outcome of the answer to these words, files and
-- classes
abbrev pub CdppEnds : List Word → List Class → Outside → Outside → Status → Type 0
CdppEnds words classes old new status =
    IfSome old.files (λ files. Outcome (answer words files classes) old new status)

-- also where no file is told: the status is one of the program, and its cause came about
abbrev pub CdppCauses : List Word → Outside → Outside → Status → Type 0
CdppCauses words old new status = Causes of_cdpp (asked_by_words words) old new status

-- ---- drawlog

-- where the files are told, the call comes to an outcome of the answer to these words and files
abbrev pub DrawlogEnds : List Word → Outside → Outside → Status → Type 0
DrawlogEnds words old new status =
    IfSome old.files (λ files. Outcome (drawing_answer words files) old new status)

-- also where no file is told: the status is one of the program, and its cause came about
abbrev pub DrawlogCauses : List Word → Outside → Outside → Status → Type 0
DrawlogCauses words old new status =
    Causes of_drawlog (asked_drawing words) old new status
