-- What comes of the words of a command where the files are told: the visits that it costs at most,
-- what its run leaves, and, over a room that never fails, its answer.
use Rattle.std.specs.Prelude.{◌≡◌, ℕ, ◌+◌, ◌≤◌, ◌⊎◌, List, IfSome}
use Rattle.atomic_face.specs.declared.class.Class.{Class}
use Rattle.room_edge.specs.Outside.{Outside}
use Rattle.model_tree.specs.Tree.{Word}
use Rattle.answer_model.specs.Cdpp.{answer}
use Rattle.answer_model.specs.Headline.{Writes}
use Rattle.answer_model.specs.Visits.{visits_for}
use Rattle.answer_model.specs.declared.status.Status.{Status}
use Rattle.answer_model.specs.declared.status.Status.TheVariants.{NoMemory}
use Rattle.asked_run.specs.Leaving.{LeavesFor}

-- where visits are counted, there are at most so many more as the words may cost
abbrev pub CostsAtMost : List Word → List Class → Outside → ℕ → ℕ → Type 0
CostsAtMost words classes old before after =
    IfSome old.files (λ files. IfSome (visits_for words files classes)
    (λ most. after ≤ before + most))

-- what the run that the words ask for leaves, with the visits that were counted before and after
abbrev pub LeavesTold : List Word → List Class → Outside → Outside → ℕ → ℕ → Status → Type 0
LeavesTold words classes old new before after status =
    IfSome old.files (λ files. LeavesFor words files classes old new before after status)

-- all of the answer is written, unless memory ends
abbrev pub WritesAnswer : List Word → List Class → Outside → Outside → Status → Type 0
WritesAnswer words classes old new status =
    IfSome old.files (λ files.
    (status ≡ NoMemory) ⊎ Writes (answer words files classes) old new status)
