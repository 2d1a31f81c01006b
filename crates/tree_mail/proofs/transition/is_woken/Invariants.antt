use Rattle.std.proofs.Common.{◌≡◌, drop}
use Rattle.tree_mail.specs.Notes.{notes_of}
use Rattle.tree_mail.specs.Puts.{woken_in}
use Rattle.tree_mail.proofs.transition.is_woken.Given as goal

abbrev pub invariant-loop-offset : goal.invariant-loop-offset
invariant-loop-offset l =
    woken_in (notes_of l.kept) l.children l.space.grid l.space.offsets.items l.cell
    ≡ woken_in (notes_of l.kept) l.children l.space.grid (drop l.offset-index l.space.offsets.items) l.cell
