use Rattle.std.proofs.Common.{Some, length, sym, ◌∙◌, ap, arith}
use Rattle.std.proofs.lemmas.List.{length-set}
use Rattle.time_queue.specs.Lists.{link_of}
use Rattle.time_queue.proofs.Links.{started, settled, changed_set}
use Rattle.time_queue.proofs.lists.Lists.start.Goals as goal

pub returns-clause-linked : goal.returns-clause-linked
returns-clause-linked c =
    let l = c.args.self.now in
    let leaf = c.args.leaf in
    let linked = c.requires.linked in
    let long = length-set l.times.items leaf (Some c.args.at) in
    let times = changed_set l.times.items leaf (Some c.args.at) c.requires.within in
    let heap = changed_set l.firsts leaf (Some c.args.at) (omega (arith, linked.firsts, c.requires.within)) in
    let loose = started (link_of l.times.items) (link_of l.firsts) (link_of l.before.items) (link_of l.after.items) _ leaf c.args.at linked.links c.requires.idle times in
    rw c.some.ensures (record {
      few = omega (arith, linked.few, long);
      firsts = ap length c.set.ensures ∙ length-set l.firsts leaf (Some c.args.at) ∙ linked.firsts ∙ sym long;
      before = linked.before ∙ sym long;
      after = linked.after ∙ sym long;
      links = rw c.set.ensures (settled _ (link_of l.firsts) (link_of l.before.items) (link_of l.after.items) _ leaf c.args.at loose times.here heap);
    })
