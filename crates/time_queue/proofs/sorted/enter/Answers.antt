use Rattle.std.proofs.Common.{Some, arith}
use Rattle.std.proofs.lemmas.List.{length-set}
use Rattle.std.proofs.lemmas.List.Sorted.{IsNonDecreasingBy-insert}
use Rattle.time_queue.specs.declared.entry.Entry.{Entry}
use Rattle.time_queue.specs.Sorted.{rank}
use Rattle.time_queue.proofs.Entered.{entered_room, entered_more, lower}
use Rattle.time_queue.proofs.sorted.enter.Goals as goal

pub insert_reserved-requires-clause-room : goal.insert_reserved-requires-clause-room
insert_reserved-requires-clause-room c =
    omega (arith, c.args.entries.now.ok.0, c.requires.order.room, entered_room c.args.times.now.items c.args.entries.now.items c.args.leaf c.requires.order.entered c.requires.within c.requires.none)

pub returns-clause-order : goal.returns-clause-order
returns-clause-order c =
    let times = c.args.times.now.items in
    let entries = c.args.entries.now.items in
    let place = c.place_of-place.result in
    let entry : Entry = record { at = c.args.at; leaf = c.args.leaf } in
    let bound = rw c.deref.ensures.value at c.place_of-place.ensures.bound in
    let before = rw c.deref.ensures.value at c.place_of-place.ensures.before in
    let behind = rw c.deref.ensures.value at c.place_of-place.ensures.behind in
    record {
      few = omega (arith, c.requires.order.few, length-set times c.args.leaf (Some c.args.at));
      entered = rw c.insert_reserved.ensures.items (entered_more times entries place entry c.requires.order.entered c.requires.within c.requires.none);
      ordered = rw c.insert_reserved.ensures.items (IsNonDecreasingBy-insert rank entries place entry c.requires.order.ordered bound (λ k d lt. lower entries place entry before k d lt) (λ k d le lt. behind k d le lt));
      room = omega (arith, c.requires.order.room, c.insert_reserved.ensures.capacity, length-set times c.args.leaf (Some c.args.at));
    }
