use Rattle.std.proofs.Common.{length, refl, arith}
use Rattle.std.proofs.lemmas.Option.{slice_get_read}
use Rattle.tree_mail.proofs.Joining.{further, all-past}
use Rattle.tree_mail.proofs.pieces.place_of.Goals as goal

pub loop-i-preserved : goal.loop-i-preserved
loop-i-preserved g c =
    let ps = c.args.pieces.now in
    let p = c.index-pieces-i.result in
    let next = further ps c.loop-i.i c.args.number c.loop-i.within p c.loop-i-test.true c.index-pieces-i.is c.loop-i.invariant (omega (arith, p.ok.0)) in
    omega (arith, next, p.ok.0)

pub returns-then-within-len : goal.returns-then-within-len
returns-then-within-len g c =
    let ps = c.args.pieces.now in
    let p = c.index-pieces-i.result in
    record {
      piece = p;
      there = slice_get_read ps (length ps) c.loop-i.i p refl c.loop-i-test.true c.index-pieces-i.is;
      within = omega (arith, p.ok.0);
      number_is = c.loop-i.invariant;
    }

pub unreachable-requires : goal.unreachable-requires
unreachable-requires g c =
    let past = all-past c.args.pieces.now c.loop-i.i c.args.number c.loop-i.within (omega arith) c.loop-i.invariant in
    omega (arith, past)
