use Rattle.std.proofs.Common.{length, sym, ap, ◌∙◌, arith}
use Rattle.time_queue.specs.Waiting.{waiting_time, is_due, leaves_at}
use Rattle.time_queue.proofs.Steps.{all_listed, as_many, leaves_few, takes_both}
use Rattle.time_queue.proofs.Rising.{same_rising, rising_picked}
use Rattle.time_queue.proofs.Taken.{without_none}
use Rattle.time_queue.proofs.heap.HeapQueueTimeQueue.take_all_at.Goals as goal

pub take_leading-requires-clause-room : goal.take_leading-requires-clause-room
take_leading-requires-clause-room c =
    let many = as_many _ _ _ _ _ c.take_front.ensures.taken in
    omega (arith, many, leaves_few c.args.at c.args.self.now, c.requires.room, c.take_front.ensures.capacity, c.take_front.new.into.ok.0, c.args.into.now.ok.0, ap length c.requires.empty)

pub returns-clause-taken : goal.returns-clause-taken
returns-clause-taken c =
    let times = c.args.self.now in
    let whole = takes_both _ _ _ _ _ _ _ c.take_front.ensures.taken c.take_leading.ensures.taken in
    let taken = all_listed c.args.at _ _ _ _ whole c.take_leading.ensures.none c.requires.empty in
    same_rising c.sort.new.numbers.items (leaves_at c.args.at times) c.sort.ensures.rising
    (rising_picked (λ k. is_due c.args.at (waiting_time times k)) 0 (length times))
    (λ f. c.sort.ensures.same f ∙ taken f)

pub returns-clause-left : goal.returns-clause-left
returns-clause-left c =
    sym (without_none c.args.at _ c.take_leading.ensures.none) ∙ c.take_leading.ensures.taken.stays ∙ c.take_front.ensures.taken.stays
