use Rattle.std.proofs.Common.{rules, ◌≡◌, ◌+◌, ◌++◌, [], ◌∷◌, ◌<◌, length, arith}
use Rattle.time_queue.specs.Replay.{AreBegun}
use Rattle.time_queue.proofs.Replayed.{after_more, after_all, replies_more, replies_all, held_on_err}
use Rattle.time_queue.proofs.moves.replay.Goals as goal

pub returns-in_err-map_err-clause-err : goal.returns-in_err-map_err-clause-err
returns-in_err-map_err-clause-err g c =
    let lt : c.loop-step.step-index < length c.args.moves.now = omega arith in
    let begun : AreBegun c.args.moves.now (g.Q.TimeQueue.waiting c.args.queue.now) (g.Q.TimeQueue.waiting c.carry_out.new.queue) = record {
      count = c.loop-step.step-index + 1;
      within = omega arith;
      held = after_more c.args.moves.now c.loop-step.step-index c.step-item.result _ _ _ lt c.step-item.is c.loop-step.invariant.begun c.in_ok-reply.ensures.contents;
    } in
    held_on_err _ _ begun

pub loop-step-preserved : goal.loop-step-preserved
loop-step-preserved g c =
    let lt : c.loop-step.step-index < length c.args.moves.now = omega arith in
    let items : c.push.new.self.items ≡ c.loop-step.replies.items ++ c.in_ok-reply.reply ∷ [] = search rules in
    record {
      leaves = c.carry_out.ensures.leaves;
      begun = after_more c.args.moves.now c.loop-step.step-index c.step-item.result _ _ _ lt c.step-item.is c.loop-step.invariant.begun c.in_ok-reply.ensures.contents;
      replies = replies_more c.args.moves.now c.loop-step.step-index c.step-item.result _ _ c.in_ok-reply.reply c.loop-step.replies.items c.push.new.self.items _ lt c.step-item.is c.in_ok-reply.ensures.contents c.in_ok-reply.ensures.taken c.in_ok-reply.ensures.least items c.loop-step.invariant.replies;
    }

pub returns-clause-contents : goal.returns-clause-contents
returns-clause-contents g c = after_all c.args.moves.now c.loop-step.step-index _ _ (omega arith) c.loop-step.invariant.begun

pub returns-clause-replies : goal.returns-clause-replies
returns-clause-replies g c = replies_all c.args.moves.now c.loop-step.step-index _ _ _ (omega arith) c.loop-step.invariant.replies
