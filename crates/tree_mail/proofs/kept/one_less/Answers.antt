use Rattle.std.proofs.Common.{◌≡◌, ◌-◌, length, refl, ap}
use Rattle.std.proofs.lemmas.Option.{slice_get_read}
use Rattle.tree_mail.specs.declared.kept.Kept.{Kept}
use Rattle.tree_mail.specs.Notes.{note_of}
use Rattle.tree_mail.proofs.Noting.{noted-set, left-within}
use Rattle.tree_mail.proofs.kept.one_less.Goals as goal

pub returns-clause-kept : goal.returns-clause-kept
returns-clause-kept c =
    let ks = c.args.kept.now.items in
    let n = c.args.processor in
    let k = c.index_mut.result.now in
    let j = c.index.result.now in
    let within = left-within ks n c.requires in
    let here = slice_get_read ks (length ks) n k refl within c.index_mut.ensures.value in
    let there = slice_get_read ks (length ks) n j refl within c.index.ensures in
    let same : j ≡ k = cc (here, there) in
    noted-set ks n k _ (λ x. record x { left = x.left - 1 }) here
    (ap (λ (x : Kept). record (note_of k) { left = x.left - 1 }) same)
