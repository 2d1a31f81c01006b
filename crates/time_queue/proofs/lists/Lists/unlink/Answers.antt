use Rattle.std.proofs.Common.{◌≡◌, ◌<◌, Some, None, length, sym, ◌∙◌, arith}
use Rattle.std.proofs.lemmas.List.{length-set, get_or_read}
use Rattle.time_queue.specs.Lists.{link_of}
use Rattle.time_queue.proofs.Entered.{waits_within}
use Rattle.time_queue.proofs.Links.{unlinked_last, unlinked_next, changed_set}
use Rattle.time_queue.proofs.lists.Lists.unlink.Goals as goal

pub index_mut-requires-in_default : goal.index_mut-requires-in_default
index_mut-requires-in_default c =
    let l = c.args.self.now in
    let linked = c.requires.linked in
    let ahead = linked.links.back c.args.before c.args.leaf c.requires.behind in
    let alike = (linked.links.forth c.args.before c.args.leaf ahead.0).1 in
    omega (arith, l.after.ok.0, linked.after, waits_within l.times.items c.args.before alike.at alike.one)

pub returns-in_default-clause-linked : goal.returns-in_default-clause-linked
returns-in_default-clause-linked c =
    let l = c.args.self.now in
    let leaf = c.args.leaf in
    let linked = c.requires.linked in
    let ahead = linked.links.back c.args.before leaf c.requires.behind in
    let alike = (linked.links.forth c.args.before leaf ahead.0).1 in
    let there = waits_within l.times.items leaf alike.at alike.other in
    let there' = waits_within l.times.items c.args.before alike.at alike.one in
    let read = get_or_read l.after.items leaf c.index.result.now (omega (arith, linked.after, there)) c.index.ensures None in
    let long = length-set l.times.items leaf None in
    rw (c.none.ensures, c.none-2.ensures, c.none-in_default.ensures) (record {
      few = omega (arith, linked.few, long);
      firsts = linked.firsts ∙ sym long;
      before = length-set l.before.items leaf None ∙ linked.before ∙ sym long;
      after = length-set l.after.items c.args.before None ∙ linked.after ∙ sym long;
      links = unlinked_last (link_of l.times.items) (link_of l.firsts) (link_of l.before.items) (link_of l.after.items) _ _ _ c.args.before leaf linked.links c.requires.behind (sym read ∙ sym c.get.ensures ∙ c.in_default.is)
          (changed_set l.times.items leaf None there)
          (changed_set l.before.items leaf None (omega (arith, linked.before, there)))
          (changed_set l.after.items c.args.before None (omega (arith, linked.after, there')));
    })

pub some-requires : goal.some-requires
some-requires c =
    let l = c.args.self.now in
    let leaf = c.args.leaf in
    let linked = c.requires.linked in
    let ahead = linked.links.back c.args.before leaf c.requires.behind in
    let alike = (linked.links.forth c.args.before leaf ahead.0).1 in
    let there = waits_within l.times.items leaf alike.at alike.other in
    let read = get_or_read l.after.items leaf c.index.result.now (omega (arith, linked.after, there)) c.index.ensures None in
    let alike' = (linked.links.forth leaf c.in-Some.next (sym read ∙ sym c.get.ensures ∙ c.in-Some.is)).1 in
    omega (arith, linked.few, waits_within l.times.items c.in-Some.next alike'.at alike'.other)

pub some-requires-2 : goal.some-requires-2
some-requires-2 c =
    let linked = c.requires.linked in
    let ahead = linked.links.back c.args.before c.args.leaf c.requires.behind in
    let alike = (linked.links.forth c.args.before c.args.leaf ahead.0).1 in
    omega (arith, linked.few, waits_within c.args.self.now.times.items c.args.before alike.at alike.one)

pub index_mut-requires-4 : goal.index_mut-requires-4
index_mut-requires-4 c =
    let l = c.args.self.now in
    let linked = c.requires.linked in
    let ahead = linked.links.back c.args.before c.args.leaf c.requires.behind in
    let alike = (linked.links.forth c.args.before c.args.leaf ahead.0).1 in
    omega (arith, l.after.ok.0, linked.after, waits_within l.times.items c.args.before alike.at alike.one)

pub index_mut-requires-5 : goal.index_mut-requires-5
index_mut-requires-5 c =
    let l = c.args.self.now in
    let leaf = c.args.leaf in
    let linked = c.requires.linked in
    let ahead = linked.links.back c.args.before leaf c.requires.behind in
    let alike = (linked.links.forth c.args.before leaf ahead.0).1 in
    let there = waits_within l.times.items leaf alike.at alike.other in
    let read = get_or_read l.after.items leaf c.index.result.now (omega (arith, linked.after, there)) c.index.ensures None in
    let alike' = (linked.links.forth leaf c.in-Some.next (sym read ∙ sym c.get.ensures ∙ c.in-Some.is)).1 in
    omega (arith, l.before.ok.0, linked.before, waits_within l.times.items c.in-Some.next alike'.at alike'.other)

pub returns-clause-linked : goal.returns-clause-linked
returns-clause-linked c =
    let l = c.args.self.now in
    let leaf = c.args.leaf in
    let before = c.args.before in
    let linked = c.requires.linked in
    let ahead = linked.links.back before leaf c.requires.behind in
    let alike = (linked.links.forth before leaf ahead.0).1 in
    let there = waits_within l.times.items leaf alike.at alike.other in
    let there' = waits_within l.times.items before alike.at alike.one in
    let within : leaf < length l.after.items = omega (arith, linked.after, there) in
    let read = get_or_read l.after.items leaf c.index.result.now within c.index.ensures None in
    let next : link_of l.after.items leaf ≡ Some c.in-Some.next = sym read ∙ sym c.get.ensures ∙ c.in-Some.is in
    let alike' = (linked.links.forth leaf c.in-Some.next next).1 in
    let there'' = waits_within l.times.items c.in-Some.next alike'.at alike'.other in
    let long = length-set l.times.items leaf None in
    let b_long = length-set l.before.items leaf None in
    let a_long = length-set l.after.items leaf None in
    rw (c.none.ensures, c.none-2.ensures, c.none-3.ensures, c.some.ensures, c.some-2.ensures) (record {
      few = omega (arith, linked.few, long);
      firsts = linked.firsts ∙ sym long;
      before = length-set _ c.in-Some.next (Some before) ∙ b_long ∙ linked.before ∙ sym long;
      after = length-set _ before (Some c.in-Some.next) ∙ a_long ∙ linked.after ∙ sym long;
      links = unlinked_next (link_of l.times.items) (link_of l.firsts) (link_of l.before.items) (link_of l.after.items) _ _ _ _ _ before leaf c.in-Some.next linked.links c.requires.behind next
          (changed_set l.times.items leaf None there)
          (changed_set l.before.items leaf None (omega (arith, linked.before, there)))
          (changed_set _ c.in-Some.next (Some before) (omega (arith, linked.before, b_long, there'')))
          (changed_set l.after.items leaf None within)
          (changed_set _ before (Some c.in-Some.next) (omega (arith, linked.after, a_long, there')));
    })
