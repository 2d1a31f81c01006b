use Rattle.std.proofs.Common.{◌≡◌, ◌<◌, List, Vec, length, refl, ◌∙◌, subst}
use Rattle.std.specs.declared.alloc.Global.{Global}
use Rattle.std.proofs.lemmas.Option.{slice_get_read, slice_get_within}
use Rattle.tree_mail.specs.Joined.{IsPlaceOf}
use Rattle.tree_mail.proofs.Joining.{taken-is, left-is}
use Rattle.tree_mail.proofs.pieces.take.Goals as goal

pub returns-clause-value : goal.returns-clause-value
returns-clause-value g c =
    let ps = c.args.pieces.now.items in
    let k = c.place_of-at.result.piece in
    let i = c.place_of-at.result.within in
    let p = c.index_mut.result.now in
    let at = subst (λ (xs : List (Vec _ Global)). IsPlaceOf xs c.args.number c.place_of-at.result) c.deref.ensures.value c.place_of-at.ensures in
    let here = slice_get_read ps (length ps) k p refl (slice_get_within ps k at.piece at.there) c.index_mut.ensures.value in
    let same : at.piece ≡ p = cc (at.there, here) in
    let within : i < length p.items = subst (λ (v : Vec _ Global). i < length v.items) same at.within in
    taken-is ps k i c.args.number p here within at.number_is
    ∙ slice_get_read p.items (length p.items) i c.remove-item.result refl within c.remove-item.ensures.value

pub returns-clause-left : goal.returns-clause-left
returns-clause-left g c =
    let ps = c.args.pieces.now.items in
    let k = c.place_of-at.result.piece in
    let i = c.place_of-at.result.within in
    let p = c.index_mut.result.now in
    let at = subst (λ (xs : List (Vec _ Global)). IsPlaceOf xs c.args.number c.place_of-at.result) c.deref.ensures.value c.place_of-at.ensures in
    let here = slice_get_read ps (length ps) k p refl (slice_get_within ps k at.piece at.there) c.index_mut.ensures.value in
    let same : at.piece ≡ p = cc (at.there, here) in
    let within : i < length p.items = subst (λ (v : Vec _ Global). i < length v.items) same at.within in
    c.drop_empty.ensures
    ∙ left-is ps k i c.args.number p c.remove-item.new.self here within at.number_is c.remove-item.ensures.items
