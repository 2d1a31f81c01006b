use Rattle.std.proofs.Common.{length, sym, ap, ◌∙◌, arith}
use Rattle.std.specs.List.{sum_by}
use Rattle.time_queue.specs.Waiting.{waiting_time, is_due, leaves_at, without}
use Rattle.time_queue.proofs.Steps.{all_listed, leaves_few}
use Rattle.time_queue.proofs.Rising.{same_rising, rising_picked}
use Rattle.time_queue.proofs.Taken.{without_none}
use Rattle.time_queue.proofs.linked.LinkedQueueTimeQueue.take_all_at.Goals as goal

pub take_lists-requires-clause-room : goal.take_lists-requires-clause-room
take_lists-requires-clause-room c =
    let few = leaves_few c.args.at c.self.inside.lists.times.items in
    omega (arith, few, c.requires.room, c.args.into.now.ok.0, ap length c.requires.empty, ap length c.self.view_is)

pub returns-clause-taken : goal.returns-clause-taken
returns-clause-taken c =
    let times = c.args.self.now in
    let taken = all_listed c.args.at _ _ _ _ c.take_lists.ensures.taken c.take_lists.ensures.none c.requires.empty in
    same_rising c.sort.new.numbers.items (leaves_at c.args.at times) c.sort.ensures.rising
    (rising_picked (λ k. is_due c.args.at (waiting_time times k)) 0 (length times))
    (λ f. c.sort.ensures.same f ∙ taken f ∙ (λ i. sum_by f (leaves_at c.args.at (c.self.view_is i))))

pub returns-clause-left : goal.returns-clause-left
returns-clause-left c =
    sym (without_none c.args.at c.take_lists.new.self.times.items c.take_lists.ensures.none) ∙ c.take_lists.ensures.taken.stays ∙ ap (without c.args.at) c.self.view_is
