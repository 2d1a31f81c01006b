use Rattle.std.proofs.Common.{◌≡◌, ◌+◌, take, length}
use Rattle.tree_mail.specs.Joined.{items_of_pieces}
use Rattle.tree_mail.proofs.pieces.place_of.Given as goal

abbrev pub invariant-loop-i : goal.invariant-loop-i
invariant-loop-i g l = l.number ≡ length (items_of_pieces (take l.i l.pieces)) + l.within
