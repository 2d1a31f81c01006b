use Rattle.std.proofs.Common.{◌∙◌, subst}
use Rattle.answer_model.specs.declared.status.Status.TheVariants.{TooManyCycles}
use Rattle.answer_model.specs.RunEnd.{many_line}
use Rattle.answer_model.specs.Endings.{Says}
use Rattle.answer_model.proofs.Said.{said_nothing}
use Rattle.run_loop.proofs.ending.complain_many.Goals as goal

pub returns-in_default : goal.returns-in_default
returns-in_default g c = said_nothing _ (many_line c.args.limit c.args.t) _

pub returns : goal.returns
returns g c =
    subst (λ line. Says line TooManyCycles (g.R.Room.outside c.args.room.now) (g.R.Room.outside c.complain.new.room) c.complain.result) (c.deref.ensures.value ∙ c.in-Ok.ensures) c.complain.ensures
