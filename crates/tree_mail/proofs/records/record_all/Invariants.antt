use Rattle.tree_mail.specs.Notes.{notes_of}
use Rattle.tree_mail.proofs.Recording.{AddedTo}
use Rattle.tree_mail.proofs.records.record_all.Given as goal

abbrev pub invariant-loop-i : goal.invariant-loop-i
invariant-loop-i l = AddedTo l.t l.entries (notes_of l.mail.kept.items) l.i l.records
