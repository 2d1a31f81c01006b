use Rattle.std.proofs.Common.{rules, ◌≡◌, ◌++◌, [], ◌∷◌, ap, ◌∙◌, append-nil}
use Rattle.tree_mail.specs.Joined.{items_of_pieces}
use Rattle.tree_mail.proofs.Joining.{joined-behind}
use Rattle.tree_mail.proofs.pieces.make_room.Goals as goal

pub returns-clause-same : goal.returns-clause-same
returns-clause-same g c =
    let ps = c.args.pieces.now.items in
    let pushed : c.push.new.self.items ≡ ps ++ c.in_ok-piece.piece ∷ [] = search rules in
    ap items_of_pieces pushed
    ∙ joined-behind ps c.in_ok-piece.piece
    ∙ ap (λ xs. items_of_pieces ps ++ xs) c.in_ok-piece.ensures.items
    ∙ append-nil (items_of_pieces ps)
