-- How a reading that stops ends.
use Rattle.std.proofs.Common.{List, refl, sym, subst}
use Rattle.room_edge.specs.Outside.{Outside}
use Rattle.model_tree.specs.Tree.{Word}
use Rattle.answer_model.specs.declared.status.Status.{Status}
use Rattle.answer_model.specs.declared.status.Status.TheVariants.{NoMemory}
use Rattle.answer_model.specs.Answer.{Answer}
use Rattle.answer_model.specs.Started.{Stop}
use Rattle.answer_model.specs.Cdpp.{stop_answer}
use Rattle.answer_model.specs.Endings.{looked_for, EndsWith}
use Rattle.answer_model.proofs.Endings.{endings_follow}
use Rattle.answer_model.proofs.Outcomes.{none_begun}
use Rattle.run_inputs.specs.Unread.{TellsStop, TellsNothing}

-- a line tells of the stop
pub stop_told : (stop : Stop) (inputs : List Word) (now new : Outside) (s : Status) → TellsStop stop now new s → EndsWith (stop_answer (record { why = stop; inputs = inputs })) (looked_for inputs) now new s
stop_told stop inputs now new s says = endings_follow.said (stop_answer (record { why = stop; inputs = inputs })) (looked_for inputs) now new s refl refl says

-- memory ran out before anything was made
pub no_memory : (x : Answer) (inputs : List Word) (now : Outside) → EndsWith x (looked_for inputs) now now NoMemory
no_memory x inputs now = endings_follow.memory x (looked_for inputs) now (none_begun x (looked_for inputs) refl refl)

-- and no line tells of it
pub no_line : (x : Answer) (inputs : List Word) (old mid new : Outside) (s : Status) → EndsWith x (looked_for inputs) old mid NoMemory → TellsNothing mid new s → EndsWith x (looked_for inputs) old new s
no_line x inputs old mid new s ends (own, same) =
    subst (λ n. EndsWith x (looked_for inputs) old new n) (sym own) (subst (λ (o : Outside). EndsWith x (looked_for inputs) old o NoMemory) (sym same) ends)
