use Rattle.std.proofs.Common.{length, refl, sym, ◌∙◌}
use Rattle.std.proofs.lemmas.Option.{slice_get_read}
use Rattle.tree_mail.proofs.Noting.{given-there}
use Rattle.tree_mail.proofs.kept.given_by.Goals as goal

pub returns-in-Some : goal.returns-in-Some
returns-in-Some c =
    let ks = c.args.kept.now in
    let there = c.in-Some.ensures.lookup in
    c.gave_in.ensures
    ∙ sym (given-there ks c.args.processor c.in-Some.k.now (slice_get_read ks (length ks) c.args.processor c.in-Some.k.now refl there.3.0 there.1))
