use Rattle.std.proofs.Common.{length, refl}
use Rattle.std.proofs.lemmas.Option.{slice_get_read}
use Rattle.tree_mail.proofs.Noting.{noted-set}
use Rattle.tree_mail.proofs.kept.wait_for.Goals as goal

pub returns : goal.returns
returns c =
    let ks = c.args.kept.now.items in
    let n = c.args.processor in
    let k = c.index_mut.result.now in
    noted-set ks n k _ (λ x. record x { left = c.args.children })
    (slice_get_read ks (length ks) n k refl c.requires c.index_mut.ensures.value) refl
