use Rattle.std.proofs.Common.{◌≡◌, ◌++◌, drop}
use Rattle.tree_mail.specs.Notes.{notes_of}
use Rattle.tree_mail.specs.Mail.{messages_in}
use Rattle.tree_mail.specs.Puts.{handed_on}
use Rattle.tree_mail.proofs.transition.hand_over.Given as goal

abbrev pub invariant-loop-child : goal.invariant-loop-child
invariant-loop-child l =
    record {
      puts : messages_in l.mail.waiting
          ++ handed_on l.entries (notes_of l.initial.mail.kept.items) (drop l.child-index l.children) l.bag
          ≡ messages_in l.initial.mail.waiting
          ++ handed_on l.entries (notes_of l.initial.mail.kept.items) l.children l.bag;
      kept : l.mail.kept ≡ l.initial.mail.kept;
    }
