use Rattle.std.proofs.Common.{◌∙◌, sym, arith}
use Rattle.std.proofs.lemmas.Bool.{not-true, eqb-false}
use Rattle.time_queue.proofs.Taken.{none_later, none_left}
use Rattle.time_queue.proofs.Steps.{as_many}
use Rattle.time_queue.proofs.Lines.{least_first}
use Rattle.time_queue.proofs.lists.Lists.take_lists.Goals as goal

pub returns-then-ne-clause-none : goal.returns-then-ne-clause-none
returns-then-ne-clause-none c =
    let held = c.loop-first.invariant in
    let ne = eqb-false c.in-Some.first.at c.args.at (not-true _ (sym c.ne.ensures ∙ c.if-ne.true)) in
    none_later c.args.at c.in-Some.first.at _ (least_first c.loop-first.self held.linked ∙ c.in-Some.ensures.least) (held.taken.early c.requires.early) ne

pub take_list-requires-clause-room : goal.take_list-requires-clause-room
take_list-requires-clause-room c =
    let held = c.loop-first.invariant in
    let many = as_many _ _ _ _ _ held.taken in
    omega (arith, many, c.requires.room, held.capacity, c.loop-first.into.ok.0, c.args.into.now.ok.0)

pub returns-clause-none : goal.returns-clause-none
returns-clause-none c =
    let held = c.loop-first.invariant in
    none_left c.args.at _ (least_first c.loop-first.self held.linked ∙ c.in_default.ensures.none)
