use Rattle.std.proofs.Common.{◌≡◌, drop}
use Rattle.served_tree.specs.Parts.{answer_of_both}
use Rattle.tree_mail.specs.Notes.{notes_of, answer_in}
use Rattle.tree_mail.specs.Puts.{joined_answer}
use Rattle.tree_messages.proofs.moving.answer_of_all.Given as goal

abbrev pub invariant-loop-child : goal.invariant-loop-child
invariant-loop-child l =
    answer_of_both (answer_in l.all) (joined_answer (notes_of l.kept) (drop l.child-index l.children))
    ≡ joined_answer (notes_of l.kept) l.children
