use Rattle.std.proofs.Common.{Some, sym, ◌∙◌, arith}
use Rattle.std.proofs.lemmas.List.{length-set}
use Rattle.time_queue.specs.Lists.{link_of}
use Rattle.time_queue.proofs.Entered.{waits_within}
use Rattle.time_queue.proofs.Links.{appended, changed_set}
use Rattle.time_queue.proofs.lists.Lists.append.Goals as goal

pub returns-clause-linked : goal.returns-clause-linked
returns-clause-linked c =
    let l = c.args.self.now in
    let leaf = c.args.leaf in
    let last = c.args.last in
    let linked = c.requires.linked in
    let there = waits_within l.times.items last c.args.at c.requires.same in
    let long = length-set l.times.items leaf (Some c.args.at) in
    rw (c.some.ensures, c.some-2.ensures, c.some-3.ensures) (record {
      few = omega (arith, linked.few, long);
      firsts = linked.firsts ∙ sym long;
      before = length-set l.before.items leaf (Some last) ∙ linked.before ∙ sym long;
      after = length-set l.after.items last (Some leaf) ∙ linked.after ∙ sym long;
      links = appended (link_of l.times.items) (link_of l.firsts) (link_of l.before.items) (link_of l.after.items) _ _ _ last leaf c.args.at linked.links c.requires.idle c.requires.same c.requires.last
          (changed_set l.times.items leaf (Some c.args.at) c.requires.within)
          (changed_set l.before.items leaf (Some last) (omega (arith, linked.before, c.requires.within)))
          (changed_set l.after.items last (Some leaf) (omega (arith, linked.after, there)));
    })
