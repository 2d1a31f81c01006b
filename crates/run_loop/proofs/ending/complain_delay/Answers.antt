use Rattle.std.proofs.Common.{◌++◌, ◌∙◌, subst, codes}
use Rattle.quantity.specs.ValueTexts.{text5}
use Rattle.model_leaves.specs.Models.{tree_of}
use Rattle.answer_model.specs.declared.status.Status.TheVariants.{BadDelay}
use Rattle.answer_model.specs.RunEnd.{stopped_at}
use Rattle.answer_model.specs.Endings.{Says}
use Rattle.answer_model.proofs.Said.{said_nothing}
use Rattle.run_loop.proofs.ending.complain_delay.Goals as goal

pub returns-in_default : goal.returns-in_default
returns-in_default g c = λ settings. said_nothing _ (stopped_at (codes "bad delay") (tree_of c.args.model.now settings) c.args.leaf c.args.t ++ codes ": " ++ text5 c.args.delay) _

pub returns : goal.returns
returns g c = λ settings.
    subst (λ line. Says line BadDelay (g.R.Room.outside c.args.room.now) (g.R.Room.outside c.complain.new.room) c.complain.result) (c.deref.ensures.value ∙ c.in-Ok.ensures settings) c.complain.ensures
