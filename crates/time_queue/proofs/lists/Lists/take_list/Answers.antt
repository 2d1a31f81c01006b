use Rattle.std.proofs.Common.{None, length, ◌∙◌, ap, arith}
use Rattle.std.proofs.lemmas.List.{length-set}
use Rattle.time_queue.specs.Lists.{link_of}
use Rattle.time_queue.proofs.Entered.{waits_within}
use Rattle.time_queue.proofs.Steps.{as_many}
use Rattle.time_queue.proofs.Lines.{first_waits}
use Rattle.time_queue.proofs.Links.{loosened, changed_set}
use Rattle.time_queue.proofs.lists.Lists.take_list.Goals as goal

pub take_loose-next-requires-clause-linked : goal.take_loose-next-requires-clause-linked
take_loose-next-requires-clause-linked c =
    let l = c.args.self.now in
    let first = c.args.first in
    let linked = c.requires.linked in
    let waits = first_waits _ _ _ _ linked.links first c.args.at c.requires.first in
    let there = waits_within l.firsts first c.args.at c.requires.first in
    record {
      few = linked.few;
      firsts = ap length c.clear.ensures ∙ length-set l.firsts first None ∙ linked.firsts;
      before = linked.before;
      after = linked.after;
      links = rw c.clear.ensures (loosened (link_of l.times.items) (link_of l.firsts) (link_of l.before.items) (link_of l.after.items) _ first c.args.at linked.links waits.0 waits.1 (changed_set l.firsts first None there));
    }

pub take_loose-next-requires-in-Some-clause-room : goal.take_loose-next-requires-in-Some-clause-room
take_loose-next-requires-in-Some-clause-room c =
    let held = c.loop-next.invariant in
    let many = as_many _ _ _ _ _ held.taken in
    omega (arith, many, c.requires.room, held.capacity, c.loop-next.into.ok.0, c.args.into.now.ok.0)
