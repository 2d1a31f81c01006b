use Rattle.std.proofs.Common.{◌∙◌, subst}
use Rattle.answer_model.specs.Answer.{refused_text}
use Rattle.answer_model.specs.Endings.{Says}
use Rattle.answer_model.proofs.Said.{said_nothing}
use Rattle.run_inputs.proofs.tell.tell_refused.Goals as goal

pub returns-in_default : goal.returns-in_default
returns-in_default g c = said_nothing _ (refused_text c.args.what.now c.args.number c.args.why.now) _

pub returns : goal.returns
returns g c = subst (λ line. Says line c.args.status (g.R.Room.outside c.args.room.now) (g.R.Room.outside c.complain.new.room) c.complain.result) (c.deref.ensures.value ∙ c.in-Ok.ensures) c.complain.ensures
