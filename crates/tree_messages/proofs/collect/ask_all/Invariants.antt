use Rattle.std.proofs.Common.{◌≡◌, ◌++◌, map, drop}
use Rattle.served_tree.specs.Service.{collect}
use Rattle.tree_mail.specs.Mail.{messages_in}
use Rattle.tree_messages.proofs.collect.ask_all.Given as goal

abbrev pub invariant-loop-child : goal.invariant-loop-child
invariant-loop-child l =
    record {
      puts : messages_in l.mail.waiting ++ map collect (drop l.child-index l.children)
          ≡ messages_in l.initial.mail.waiting ++ map collect l.children;
      kept : l.mail.kept ≡ l.initial.mail.kept;
    }
