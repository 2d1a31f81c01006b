use Rattle.std.proofs.Common.{ap, ◌∙◌}
use Rattle.std.proofs.lemmas.Result.{on_ok_weaker}
use Rattle.tree_mail.specs.declared.message.Message.TheVariants as lent
use Rattle.tree_mail.specs.Notes.{notes_of}
use Rattle.tree_mail.specs.Puts.{done_with, joined_answer}
use Rattle.tree_mail.proofs.Putting.{put-one}
use Rattle.tree_messages.proofs.moving.answer_on.Goals as goal

pub returns-clause-puts : goal.returns-clause-puts
returns-clause-puts c =
    on_ok_weaker c.put.result
    (λ is. put-one c.args.mail.now.waiting c.put.new.self.waiting (lent.Done c.args.component c.answer_of_all-joined.result) (done_with c.args.component (joined_answer (notes_of c.args.mail.now.kept.items) c.args.children.now)) is (ap (done_with c.args.component) (c.answer_of_all-joined.ensures ∙ ap (λ ks. joined_answer (notes_of ks) c.args.children.now) c.deref.ensures.value)))
    c.put.ensures.waiting
