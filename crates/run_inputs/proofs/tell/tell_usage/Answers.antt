use Rattle.std.proofs.Common.{◌++◌, ◌∙◌, subst}
use Rattle.std.specs.Prelude.{codes}
use Rattle.answer_model.specs.ByWords.{usage}
use Rattle.answer_model.specs.declared.status.Status.TheVariants.{Usage}
use Rattle.answer_model.specs.Endings.{Says}
use Rattle.answer_model.proofs.Said.{said_nothing}
use Rattle.run_inputs.proofs.tell.tell_usage.Goals as goal

pub returns-in_default : goal.returns-in_default
returns-in_default g c = said_nothing _ (codes "usage: " ++ usage) _

pub returns : goal.returns
returns g c = subst (λ line. Says line Usage (g.R.Room.outside c.args.room.now) (g.R.Room.outside c.complain.new.room) c.complain.result) (c.deref.ensures.value ∙ c.in-Ok.ensures) c.complain.ensures
