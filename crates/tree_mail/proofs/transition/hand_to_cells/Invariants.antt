use Rattle.std.proofs.Common.{◌≡◌, ◌++◌, map, drop}
use Rattle.std.specs.List.{enumerate_from}
use Rattle.tree_mail.specs.Notes.{notes_of}
use Rattle.tree_mail.specs.Mail.{messages_in}
use Rattle.tree_mail.specs.Puts.{handed_to, handed_to_cells}
use Rattle.tree_mail.proofs.transition.hand_to_cells.Given as goal

abbrev pub invariant-loop-i : goal.invariant-loop-i
invariant-loop-i l =
    record {
      puts : messages_in l.mail.waiting
          ++ map (handed_to l.entries (notes_of l.initial.mail.kept.items) l.children l.space l.bag) (enumerate_from l.i (drop l.i l.children))
          ≡ messages_in l.initial.mail.waiting
          ++ handed_to_cells l.entries (notes_of l.initial.mail.kept.items) l.children l.space l.bag;
      kept : l.mail.kept ≡ l.initial.mail.kept;
    }
