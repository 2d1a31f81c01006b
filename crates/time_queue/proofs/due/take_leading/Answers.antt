use Rattle.std.proofs.Common.{None, Some, set, refl, sym, ◌∙◌, ap, arith}
use Rattle.std.proofs.lemmas.Bool.{not-true, not-false, eqb-true, eqb-false}
use Rattle.time_queue.proofs.Taken.{none_later, none_left}
use Rattle.time_queue.proofs.Steps.{as_many, one_fewer, takes_both, takes_one}
use Rattle.time_queue.proofs.due.take_leading.Goals as goal

pub returns-then-ne-clause-none : goal.returns-then-ne-clause-none
returns-then-ne-clause-none g c =
    let ne = eqb-false c.in-Some.first.at c.args.at (not-true _ (sym c.ne.ensures ∙ c.if-ne.true)) in
    none_later c.args.at c.in-Some.first.at _ c.in-Some.ensures.least (c.loop-first.invariant.taken.early c.requires.early) ne

pub push_reserved-requires : goal.push_reserved-requires
push_reserved-requires g c =
    let is = eqb-true c.in-Some.first.at c.args.at (not-false _ (sym c.ne.ensures ∙ c.if-ne.false)) in
    let now = g.Q.DueFirst.waiting c.loop-first.queue in
    let many = as_many _ _ _ _ _ c.loop-first.invariant.taken in
    let fewer = one_fewer c.args.at c.in-Some.first.leaf now (set now c.in-Some.first.leaf None) (c.in-Some.ensures.waits ∙ ap Some is) refl in
    omega (arith, many, fewer, c.requires.room, c.loop-first.invariant.capacity, c.loop-first.into.ok.0, c.args.into.now.ok.0)

pub loop-first-smaller : goal.loop-first-smaller
loop-first-smaller g c =
    let is = eqb-true c.in-Some.first.at c.args.at (not-false _ (sym c.ne.ensures ∙ c.if-ne.false)) in
    one_fewer c.args.at c.in-Some.first.leaf _ _ (c.in-Some.ensures.waits ∙ ap Some is) c.remove.ensures

pub loop-first-preserved : goal.loop-first-preserved
loop-first-preserved g c =
    let is = eqb-true c.in-Some.first.at c.args.at (not-false _ (sym c.ne.ensures ∙ c.if-ne.false)) in
    record {
      taken = takes_both _ _ _ _ _ _ _ c.loop-first.invariant.taken (takes_one c.args.at c.in-Some.first.leaf _ _ _ _ (c.in-Some.ensures.waits ∙ ap Some is) c.remove.ensures c.push_reserved.ensures.items);
      capacity = c.push_reserved.ensures.capacity ∙ c.loop-first.invariant.capacity;
    }

pub returns-clause-none : goal.returns-clause-none
returns-clause-none g c = none_left c.args.at _ c.in_default.ensures.none
