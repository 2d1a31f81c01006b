use Rattle.std.proofs.Common.{[], refl, sym, ap, ◌∙◌}
use Rattle.std.proofs.lemmas.Result.{on_ok_weaker}
use Rattle.tree_mail.specs.Notes.{notes_of}
use Rattle.tree_mail.proofs.Putting.{put-none, put-same, answers-on, answers-not}
use Rattle.tree_messages.proofs.moving.count_answered.Goals as goal

pub returns-then-one_less-clause-puts : goal.returns-then-one_less-clause-puts
returns-then-one_less-clause-puts c =
    let notes = notes_of c.args.mail.now.kept.items in
    on_ok_weaker c.answer_on.result
    (λ h. put-same c.args.mail.now.waiting c.answer_on.new.mail.waiting _ _ (answers-on c.args.component c.args.children.now notes (notes_of c.one_less.new.kept.items) c.one_less.ensures.kept (sym c.one_less.ensures.last ∙ c.if-one_less.true)) h)
    c.answer_on.ensures.puts

pub returns-then-one_less-clause-notes : goal.returns-then-one_less-clause-notes
returns-then-one_less-clause-notes c =
    on_ok_weaker c.answer_on.result (λ h. ap (λ k. notes_of k.items) c.answer_on.ensures.kept ∙ c.one_less.ensures.kept) c.answer_on.ensures.puts

pub returns-clause-puts : goal.returns-clause-puts
returns-clause-puts c =
    let notes = notes_of c.args.mail.now.kept.items in
    put-same c.args.mail.now.waiting c.args.mail.now.waiting [] _ (answers-not c.args.component c.args.children.now notes (notes_of c.one_less.new.kept.items) c.one_less.ensures.kept (sym c.one_less.ensures.last ∙ c.if-one_less.false)) (put-none c.args.mail.now.waiting c.args.mail.now.waiting refl)
