use Rattle.std.proofs.Common.{◌≡◌, ◌<◌, Some, None, length, refl, sym, ◌∙◌, arith}
use Rattle.std.proofs.lemmas.List.{length-set, get_or_read}
use Rattle.time_queue.specs.Lists.{link_of}
use Rattle.time_queue.proofs.Entered.{waits_within}
use Rattle.time_queue.proofs.Links.{released_last, released_next, changed_set}
use Rattle.time_queue.proofs.lists.Lists.release.Goals as goal

pub index_mut-requires : goal.index_mut-requires
index_mut-requires c =
    let l = c.args.self.now in
    let loose = c.requires.linked.links.loose_one c.args.leaf refl in
    omega (arith, l.times.ok.0, waits_within l.times.items c.args.leaf loose.at loose.waits)

pub index-requires : goal.index-requires
index-requires c =
    let l = c.args.self.now in
    let loose = c.requires.linked.links.loose_one c.args.leaf refl in
    omega (arith, l.after.ok.0, c.requires.linked.after, waits_within l.times.items c.args.leaf loose.at loose.waits)

pub index_mut-requires-2 : goal.index_mut-requires-2
index_mut-requires-2 c =
    let l = c.args.self.now in
    let loose = c.requires.linked.links.loose_one c.args.leaf refl in
    omega (arith, l.after.ok.0, c.requires.linked.after, waits_within l.times.items c.args.leaf loose.at loose.waits)

pub returns-in_default-clause-linked : goal.returns-in_default-clause-linked
returns-in_default-clause-linked c =
    let l = c.args.self.now in
    let leaf = c.args.leaf in
    let linked = c.requires.linked in
    let loose = linked.links.loose_one leaf refl in
    let there = waits_within l.times.items leaf loose.at loose.waits in
    let read = get_or_read l.after.items leaf c.index.result.now (omega (arith, linked.after, there)) c.index.ensures None in
    let long = length-set l.times.items leaf None in
    rw c.none.ensures (record {
      few = omega (arith, linked.few, long);
      firsts = linked.firsts ∙ sym long;
      before = linked.before ∙ sym long;
      after = linked.after ∙ sym long;
      links = released_last (link_of l.times.items) (link_of l.firsts) (link_of l.before.items) (link_of l.after.items) _ leaf linked.links (sym read ∙ sym c.get.ensures ∙ c.in_default.is) (changed_set l.times.items leaf None there);
    })

pub index_mut-requires-3 : goal.index_mut-requires-3
index_mut-requires-3 c =
    let l = c.args.self.now in
    let leaf = c.args.leaf in
    let linked = c.requires.linked in
    let loose = linked.links.loose_one leaf refl in
    let there = waits_within l.times.items leaf loose.at loose.waits in
    let read = get_or_read l.after.items leaf c.index.result.now (omega (arith, linked.after, there)) c.index.ensures None in
    let alike = (linked.links.forth leaf c.in-Some.next (sym read ∙ sym c.get.ensures ∙ c.in-Some.is)).1 in
    omega (arith, l.before.ok.0, linked.before, waits_within l.times.items c.in-Some.next alike.at alike.other)

pub returns-clause-next : goal.returns-clause-next
returns-clause-next c =
    let l = c.args.self.now in
    let leaf = c.args.leaf in
    let linked = c.requires.linked in
    let loose = linked.links.loose_one leaf refl in
    let there = waits_within l.times.items leaf loose.at loose.waits in
    sym c.in-Some.is ∙ c.get.ensures ∙ get_or_read l.after.items leaf c.index.result.now (omega (arith, linked.after, there)) c.index.ensures None

pub returns-clause-linked : goal.returns-clause-linked
returns-clause-linked c =
    let l = c.args.self.now in
    let leaf = c.args.leaf in
    let linked = c.requires.linked in
    let loose = linked.links.loose_one leaf refl in
    let there = waits_within l.times.items leaf loose.at loose.waits in
    let within : leaf < length l.after.items = omega (arith, linked.after, there) in
    let read = get_or_read l.after.items leaf c.index.result.now within c.index.ensures None in
    let next : link_of l.after.items leaf ≡ Some c.in-Some.next = sym read ∙ sym c.get.ensures ∙ c.in-Some.is in
    let alike = (linked.links.forth leaf c.in-Some.next next).1 in
    let there' = waits_within l.times.items c.in-Some.next alike.at alike.other in
    let long = length-set l.times.items leaf None in
    rw (c.none.ensures, c.none-2.ensures, c.none-3.ensures) (record {
      few = omega (arith, linked.few, long);
      firsts = linked.firsts ∙ sym long;
      before = length-set l.before.items c.in-Some.next None ∙ linked.before ∙ sym long;
      after = length-set l.after.items leaf None ∙ linked.after ∙ sym long;
      links = released_next (link_of l.times.items) (link_of l.firsts) (link_of l.before.items) (link_of l.after.items) _ _ _ leaf c.in-Some.next linked.links next
          (changed_set l.times.items leaf None there)
          (changed_set l.after.items leaf None within)
          (changed_set l.before.items c.in-Some.next None (omega (arith, linked.before, there')));
    })
