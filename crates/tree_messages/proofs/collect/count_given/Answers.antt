use Rattle.std.proofs.Common.{[], refl, sym, ◌∙◌}
use Rattle.std.proofs.lemmas.Result.{on_ok_weaker}
use Rattle.tree_mail.specs.Notes.{notes_of}
use Rattle.tree_mail.proofs.Putting.{put-none, put-same, gives-on, gave-on, gives-not, gave-not}
use Rattle.tree_messages.proofs.collect.count_given.Goals as goal

pub returns-then-one_less-clause-puts : goal.returns-then-one_less-clause-puts
returns-then-one_less-clause-puts c =
    let notes = notes_of c.args.mail.now.kept.items in
    on_ok_weaker c.give_on.result
    (λ h. put-same c.args.mail.now.waiting c.give_on.new.mail.waiting _ _ (gives-on c.args.component c.args.entry.now notes (notes_of c.one_less.new.kept.items) c.one_less.ensures.kept (sym c.one_less.ensures.last ∙ c.if-one_less.true)) h)
    c.give_on.ensures.puts

pub returns-then-one_less-clause-notes : goal.returns-then-one_less-clause-notes
returns-then-one_less-clause-notes c =
    let notes = notes_of c.args.mail.now.kept.items in
    on_ok_weaker c.give_on.result
    (λ h. h ∙ gave-on c.args.component c.args.entry.now notes (notes_of c.one_less.new.kept.items) c.one_less.ensures.kept (sym c.one_less.ensures.last ∙ c.if-one_less.true))
    c.give_on.ensures.notes

pub returns-clause-puts : goal.returns-clause-puts
returns-clause-puts c =
    let notes = notes_of c.args.mail.now.kept.items in
    put-same c.args.mail.now.waiting c.args.mail.now.waiting [] _ (gives-not c.args.component c.args.entry.now notes (notes_of c.one_less.new.kept.items) c.one_less.ensures.kept (sym c.one_less.ensures.last ∙ c.if-one_less.false)) (put-none c.args.mail.now.waiting c.args.mail.now.waiting refl)

pub returns-clause-notes : goal.returns-clause-notes
returns-clause-notes c =
    let notes = notes_of c.args.mail.now.kept.items in
    gave-not c.args.component c.args.entry.now notes (notes_of c.one_less.new.kept.items) c.one_less.ensures.kept (sym c.one_less.ensures.last ∙ c.if-one_less.false)
