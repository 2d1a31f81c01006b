use Rattle.std.proofs.Common.{◌≡◌, ◌≢◌, Some, None, length, refl, sym, ◌∙◌, ap, arith}
use Rattle.std.proofs.lemmas.List.{length-set, get_or-set_other}
use Rattle.time_queue.specs.Lists.{link_of}
use Rattle.time_queue.proofs.Entered.{waits_within}
use Rattle.time_queue.proofs.Links.{loosened, settled, changed_set}
use Rattle.time_queue.proofs.lists.Lists.leave_first.Goals as goal

pub release-requires : goal.release-requires
release-requires c =
    let l = c.args.self.now in
    let leaf = c.args.leaf in
    let linked = c.requires.linked in
    let there = waits_within l.times.items leaf c.args.at c.requires.waits in
    record {
      linked = record {
        few = linked.few;
        firsts = ap length c.clear.ensures ∙ length-set l.firsts leaf None ∙ linked.firsts;
        before = linked.before;
        after = linked.after;
        links = rw c.clear.ensures (loosened (link_of l.times.items) (link_of l.firsts) (link_of l.before.items) (link_of l.after.items) _ leaf c.args.at linked.links c.requires.first c.requires.waits (changed_set l.firsts leaf None (omega (arith, linked.firsts, there))));
      };
    }

pub set-requires : goal.set-requires
set-requires c =
    let l = c.release.new.self in
    let linked = c.in-Some.ensures.linked in
    let loose = linked.links.loose_one c.in-Some.next refl in
    omega (arith, linked.firsts, waits_within l.times.items c.in-Some.next loose.at loose.waits)

pub returns-in-Some-clause-linked : goal.returns-in-Some-clause-linked
returns-in-Some-clause-linked c =
    let old = c.args.self.now in
    let l = c.release.new.self in
    let leaf = c.args.leaf in
    let next = c.in-Some.next in
    let linked = c.in-Some.ensures.linked in
    let forth = c.requires.linked.links.forth leaf next (sym c.in-Some.ensures.next) in
    let alike = forth.1 in
    let apart : next ≢ leaf = λ e. cc (forth.0, c.requires.first) in
    let waits : link_of l.times.items next ≡ Some c.args.at = ap (λ ts. link_of ts next) c.in-Some.ensures.times ∙ get_or-set_other old.times.items leaf next None None apart ∙ alike.other ∙ sym alike.one ∙ c.requires.waits in
    let there = waits_within l.times.items next c.args.at waits in
    record {
      few = linked.few;
      firsts = ap length c.set.ensures ∙ length-set l.firsts next (Some c.args.at) ∙ linked.firsts;
      before = linked.before;
      after = linked.after;
      links = rw c.set.ensures (settled (link_of l.times.items) (link_of l.firsts) (link_of l.before.items) (link_of l.after.items) _ next c.args.at linked.links waits (changed_set l.firsts next (Some c.args.at) (omega (arith, linked.firsts, there))));
    }
