use Rattle.std.proofs.Common.{None, sym, ◌∙◌, refl, arith}
use Rattle.std.proofs.lemmas.List.{length-set, get_or_read}
use Rattle.time_queue.proofs.Entered.{entry_found, entered_left, ordered_left}
use Rattle.time_queue.proofs.sorted.leave.Goals as goal

pub remove-requires : goal.remove-requires
remove-requires c =
    let times = c.args.times.now.items in
    let entries = c.args.entries.now.items in
    let waits = sym (get_or_read times c.args.leaf c.index.result.now c.requires.within c.index.ensures None) ∙ c.in-Some.is in
    let before = rw c.deref.ensures.value at c.place_of-place.ensures.before in
    let behind = rw c.deref.ensures.value at c.place_of-place.ensures.behind in
    let found = entry_found times entries c.args.leaf c.in-Some.at c.place_of-place.result (record { at = c.in-Some.at; leaf = c.args.leaf }) c.requires.order.entered c.requires.order.few c.requires.order.ordered refl refl (omega (arith, c.ranges.leaf.fits)) waits before behind in
    omega (arith, found.0, c.args.entries.now.ok.0)

pub returns-clause-order : goal.returns-clause-order
returns-clause-order c =
    let times = c.args.times.now.items in
    let entries = c.args.entries.now.items in
    let place = c.place_of-place.result in
    let waits = sym (get_or_read times c.args.leaf c.index.result.now c.requires.within c.index.ensures None) ∙ c.in-Some.is in
    let before = rw c.deref.ensures.value at c.place_of-place.ensures.before in
    let behind = rw c.deref.ensures.value at c.place_of-place.ensures.behind in
    let found = entry_found times entries c.args.leaf c.in-Some.at place (record { at = c.in-Some.at; leaf = c.args.leaf }) c.requires.order.entered c.requires.order.few c.requires.order.ordered refl refl (omega (arith, c.ranges.leaf.fits)) waits before behind in
    record {
      few = omega (arith, c.requires.order.few, length-set times c.args.leaf None);
      entered = rw c.remove.ensures.items (entered_left times entries c.args.leaf c.in-Some.at place (record { at = c.in-Some.at; leaf = c.args.leaf }) c.requires.order.entered waits found.0 found.1 found.2);
      ordered = rw c.remove.ensures.items (ordered_left entries place found.0 c.requires.order.ordered);
      room = omega (arith, c.requires.order.room, c.remove.ensures.capacity, length-set times c.args.leaf None);
    }
