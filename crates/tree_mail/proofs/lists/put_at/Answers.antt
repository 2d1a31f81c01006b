use Rattle.std.proofs.Common.{[], ◌∷◌, ◌+◌, drop, refl}
use Rattle.atomic_face.specs.Classes.{Bag}
use Rattle.run_model.specs.Cycle.{at_port}
use Rattle.served_tree.specs.Service.{at_number}
use Rattle.tree_mail.proofs.Rest.{further, all-made, number-first}
use Rattle.tree_mail.proofs.lists.put_at.Goals as goal

pub loop-there-preserved : goal.loop-there-preserved
loop-there-preserved c =
    let p = c.args.port.0 in
    let n = c.args.number in
    let F = λ (bag : Bag). at_port (p, at_number bag n) in
    let x = c.there-item.result in
    further F F c.args.bag.now c.loop-there.there-index x x c.loop-there-test.true c.there-item.is (F (x ∷ []))
    (number-first p n x (drop (c.loop-there.there-index + 1) c.args.bag.now))
    c.loop-there.into.items c.put_one.new.into.items _ c.in_ok-put_one.ensures c.loop-there.invariant

pub returns : goal.returns
returns c =
    let p = c.args.port.0 in
    let F = λ (bag : Bag). at_port (p, at_number bag c.args.number) in
    all-made F c.args.bag.now c.loop-there.there-index c.loop-there-test.false refl c.loop-there.into.items _ c.loop-there.invariant
