use Rattle.std.proofs.Common.{map, ap, ◌∙◌}
use Rattle.std.proofs.lemmas.Result.{on_ok_weaker}
use Rattle.served_tree.specs.Service.{transition}
use Rattle.served_tree.specs.Rows.{read_rows}
use Rattle.tree_tables.specs.Stations.{row_of}
use Rattle.tree_mail.specs.Notes.{notes_of, all_heard}
use Rattle.tree_mail.specs.Puts.{ins_read}
use Rattle.tree_mail.proofs.Putting.{put-one}
use Rattle.tree_mail.proofs.transition.hand_to.Goals as goal

pub returns-clause-puts : goal.returns-clause-puts
returns-clause-puts c =
    let notes = notes_of c.args.mail.now.kept.items in
    on_ok_weaker c.put.result
    (λ is. put-one c.args.mail.now.waiting c.put.new.self.waiting _ (transition c.args.child (ins_read c.args.entries.now notes c.args.bag.now c.args.child) c.args.woken) is
    (ap (λ bag. transition c.args.child bag c.args.woken)
    (c.in_ok-takes.ensures
    ∙ ap (λ ks. read_rows c.args.bag.now (all_heard (notes_of ks)) (map row_of c.rows_into.result.now)) c.deref.ensures.value
    ∙ ap (read_rows c.args.bag.now (all_heard notes)) c.rows_into.ensures)))
    c.put.ensures.waiting
