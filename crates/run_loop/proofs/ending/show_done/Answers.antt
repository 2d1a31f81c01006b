use Rattle.std.proofs.Common.{◌∙◌, subst}
use Rattle.answer_model.specs.declared.status.Status.TheVariants.{Done}
use Rattle.answer_model.specs.Endings.{ShowsEnd}
use Rattle.answer_model.proofs.Said.{shown_nothing}
use Rattle.run_loop.proofs.ending.show_done.Goals as goal

pub returns-in_default : goal.returns-in_default
returns-in_default g c = λ settings cycles has. shown_nothing _ _ _

pub returns : goal.returns
returns g c = λ settings cycles has.
    subst (λ line. ShowsEnd line Done (g.R.Room.outside c.args.room.now) (g.R.Room.outside c.show.new.room) c.show.result) (c.deref.ensures.value ∙ c.in-Ok.ensures settings cycles has) c.show.ensures
