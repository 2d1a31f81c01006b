use Rattle.std.proofs.Common.{◌<◌, length, refl, sym, ◌∙◌, ap, subst, arith}
use Rattle.std.proofs.lemmas.List.{length-set}
use Rattle.time_queue.specs.Waiting.{undue, waiting_time}
use Rattle.time_queue.proofs.Taken.{IsScanned, scanned_none, scanned_room, scanned_more, scanned_next}
use Rattle.time_queue.proofs.due.take_scattered.Goals as goal

pub loop-leaf-init : goal.loop-leaf-init
loop-leaf-init g c =
    let start = g.Q.DueFirst.waiting c.args.queue.now in
    record {
      scanned = subst (λ taken. IsScanned c.args.at start start taken 0) (sym c.requires.empty) (scanned_none c.args.at start);
      same = refl;
      end = c.leaves-leaf-end.ensures;
      room = c.requires.room;
    }

pub take_if_due-requires-clause-room : goal.take_if_due-requires-clause-room
take_if_due-requires-clause-room g c =
    omega (arith, c.loop-leaf.into.ok.0, c.loop-leaf.invariant.room, c.loop-leaf.invariant.end, scanned_room c.args.at _ _ c.loop-leaf.into.items c.loop-leaf.leaf c.loop-leaf.invariant.scanned)

pub loop-leaf-preserved : goal.loop-leaf-preserved
loop-leaf-preserved g c =
    let start = g.Q.DueFirst.waiting c.args.queue.now in
    let now = g.Q.DueFirst.waiting c.loop-leaf.queue in
    let i = c.loop-leaf.leaf in
    let scanned = c.loop-leaf.invariant.scanned in
    let within : i < length start = omega (arith, c.loop-leaf.invariant.end) in
    record {
      scanned = rw (c.take_if_due.ensures.taken, scanned_next c.args.at start now c.loop-leaf.into.items i scanned within)
          (scanned_more c.args.at start now _ c.loop-leaf.into.items i scanned within (sym c.take_if_due.ensures.left));
      same = ap length c.take_if_due.ensures.left ∙ length-set now i (undue c.args.at (waiting_time now i)) ∙ c.loop-leaf.invariant.same;
      end = c.loop-leaf.invariant.end;
      room = omega (arith, c.loop-leaf.invariant.room, c.take_if_due.ensures.capacity);
    }
