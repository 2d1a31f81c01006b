use Rattle.std.proofs.Common.{length, refl, sym, ◌∙◌, ap, None}
use Rattle.std.proofs.lemmas.Option.{slice_get_read}
use Rattle.tree_mail.specs.Notes.{answer_in}
use Rattle.tree_mail.proofs.Noting.{answer-there, answered-or}
use Rattle.tree_mail.proofs.kept.answer_by.Goals as goal

pub returns-in-Some : goal.returns-in-Some
returns-in-Some c =
    let ks = c.args.kept.now in
    let there = c.in-Some.ensures.lookup in
    ap answer_in c.unwrap_or.ensures
    ∙ sym (answered-or c.in-Some.k.now.answered (record { next = None; stop = None }))
    ∙ sym (answer-there ks c.args.processor c.in-Some.k.now (slice_get_read ks (length ks) c.args.processor c.in-Some.k.now refl there.3.0 there.1))
