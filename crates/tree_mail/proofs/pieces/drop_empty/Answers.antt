use Rattle.std.proofs.Common.{◌≡◌, length, refl, sym, ap, ◌∙◌, arith, eqb-true, vec_len}
use Rattle.std.proofs.lemmas.List.{nil_from_length}
use Rattle.std.proofs.lemmas.Option.{slice_get_read}
use Rattle.tree_mail.specs.Joined.{items_of_pieces}
use Rattle.tree_mail.proofs.Joining.{piece-less}
use Rattle.tree_mail.proofs.pieces.drop_empty.Goals as goal

pub returns-then-is_empty : goal.returns-then-is_empty
returns-then-is_empty g c =
    let ps = c.args.pieces.now.items in
    let p = c.index.result.now in
    let none : length p.items ≡ 0 = omega (arith, p.ok.0, eqb-true (vec_len p) 0 (sym c.is_empty.ensures ∙ c.if-is_empty.true)) in
    ap items_of_pieces c.remove-empty.ensures.items
    ∙ piece-less ps c.args.piece p (slice_get_read ps (length ps) c.args.piece p refl c.requires c.index.ensures) (nil_from_length p.items none)
