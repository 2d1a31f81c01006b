use Rattle.std.proofs.Common.{◌≡◌, ◌++◌, take, drop, map, length}
use Rattle.time_queue.specs.Replay.{after, replies_of}
use Rattle.time_queue.specs.declared.moves.Reply.{Reply}
use Rattle.time_queue.proofs.moves.replay.Given as goal

abbrev pub invariant-loop-step : goal.invariant-loop-step
invariant-loop-step g l = record {
  leaves : length (g.Q.TimeQueue.waiting l.queue) ≡ l.leaves;
  begun : g.Q.TimeQueue.waiting l.queue ≡ after (take l.step-index l.moves) (g.Q.TimeQueue.waiting l.fn.queue);
  replies : map (λ (r : Reply). (r.taken.items, r.least)) l.replies.items ++ replies_of (drop l.step-index l.moves) (g.Q.TimeQueue.waiting l.queue) ≡ replies_of l.moves (g.Q.TimeQueue.waiting l.fn.queue);
}
