use Rattle.std.proofs.Common.{[], ◌∷◌, map, get_or, refl, ◌∙◌, ap}
use Rattle.std.proofs.lemmas.List.{map-append}
use Rattle.served_tree.specs.Service.{collect}
use Rattle.tree_mail.specs.Mail.{message_in, messages_in}
use Rattle.tree_mail.proofs.Rest.{further, all-made}
use Rattle.tree_messages.proofs.collect.ask_all.Goals as goal

pub loop-child-preserved : goal.loop-child-preserved
loop-child-preserved c =
    let ns = c.args.children.now in
    let n = get_or ns c.loop-child.child-index 0 in
    record {
      puts = further (map collect) (map collect) ns c.loop-child.child-index 0 n c.loop-child-test.true refl (collect n ∷ []) refl
          (messages_in c.loop-child.mail.waiting) (messages_in c.put.new.self.waiting) _
          (ap messages_in c.in_ok-put.ensures.waiting ∙ map-append message_in c.loop-child.mail.waiting _) c.loop-child.invariant.puts;
      kept = c.put.ensures.kept ∙ c.loop-child.invariant.kept;
    }

pub returns-clause-puts : goal.returns-clause-puts
returns-clause-puts c =
    all-made (map collect) c.args.children.now c.loop-child.child-index c.loop-child-test.false refl (messages_in c.loop-child.mail.waiting) _ c.loop-child.invariant.puts
