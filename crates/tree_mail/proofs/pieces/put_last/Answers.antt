use Rattle.std.proofs.Common.{◌≡◌, ◌<◌, ◌-◌, suc, length, refl, arith}
use Rattle.std.proofs.lemmas.Option.{slice_get_read}
use Rattle.tree_mail.proofs.Joining.{put-behind, same-piece}
use Rattle.tree_mail.proofs.pieces.put_last.Goals as goal

pub returns-in_default-clause-err : goal.returns-in_default-clause-err
returns-in_default-clause-err g c =
    let ps = c.args.pieces.now.items in
    let k = c.len-last.result - 1 in
    let p = c.index_mut.result.now in
    let within : k < length ps = omega (arith, c.args.pieces.now.ok.0) in
    same-piece ps k p c.push.new.self (slice_get_read ps (length ps) k p refl within c.index_mut.ensures.value) c.in_default.ensures.items

pub returns-clause-ok : goal.returns-clause-ok
returns-clause-ok g c =
    let ps = c.args.pieces.now.items in
    let k = c.len-last.result - 1 in
    let p = c.index_mut.result.now in
    let last : suc k ≡ length ps = omega (arith, c.args.pieces.now.ok.0) in
    let within : k < length ps = omega (arith, last) in
    put-behind ps k p c.push.new.self c.args.item last (slice_get_read ps (length ps) k p refl within c.index_mut.ensures.value) c.in-Ok.ensures.items
