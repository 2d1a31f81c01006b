use Rattle.std.proofs.Common.{refl, subst}
use Rattle.run_leaves.specs.Standing.{Standing}
use Rattle.tree_serve.specs.OrderedRun.{OrderedRun}
use Rattle.run_loop.specs.Answers.{MayRun}
use Rattle.run_loop.specs.Marked.{IsOrdered}
use Rattle.asked_run.specs.declared.way.Way.{Way}
use Rattle.asked_run.specs.Stages.{StandsAt}
use Rattle.asked_run.specs.Ways.{standing_in, marking_in}
use Rattle.asked_run.proofs.Orders.{uncounted}
use Rattle.asked_run.proofs.run.run.Goals as goal

-- ---- a flat run

pub run_to_end-requires-clause-may_run : goal.run_to_end-requires-clause-may_run
run_to_end-requires-clause-may_run g c = subst (λ (w : Way Standing OrderedRun). MayRun c.args.start.asked c.args.start.drawn (standing_in w)) c.in-Flat.is c.requires.may_run

pub run_to_end-requires-clause-ordered : goal.run_to_end-requires-clause-ordered
run_to_end-requires-clause-ordered g c = subst (λ (w : Way Standing OrderedRun). IsOrdered c.args.start.asked (marking_in w)) c.in-Flat.is c.requires.ordered

pub run_to_end-requires-clause-counted : goal.run_to_end-requires-clause-counted
run_to_end-requires-clause-counted g c = λ e. refl

pub returns-in-Flat-clause-ends : goal.returns-in-Flat-clause-ends
returns-in-Flat-clause-ends g c = λ s at_start. c.run_to_end.ensures.ends s (subst (λ (w : Way Standing OrderedRun). StandsAt c.args.start.asked (standing_in w) s) c.in-Flat.is at_start)

pub returns-in-Flat-clause-visits : goal.returns-in-Flat-clause-visits
returns-in-Flat-clause-visits g c = λ s at_start. c.run_to_end.ensures.visits s (subst (λ (w : Way Standing OrderedRun). StandsAt c.args.start.asked (standing_in w) s) c.in-Flat.is at_start)

pub returns-in-Flat-clause-leaves : goal.returns-in-Flat-clause-leaves
returns-in-Flat-clause-leaves g c = λ s at_start. c.run_to_end.ensures.leaves s (subst (λ (w : Way Standing OrderedRun). StandsAt c.args.start.asked (standing_in w) s) c.in-Flat.is at_start)

-- ---- a run that is served in an order

pub run_to_end-requires-in-Served-clause-may_run : goal.run_to_end-requires-in-Served-clause-may_run
run_to_end-requires-in-Served-clause-may_run g c = subst (λ (w : Way Standing OrderedRun). MayRun c.args.start.asked c.args.start.drawn (standing_in w)) c.in-Served.is c.requires.may_run

pub run_to_end-requires-in-Served-clause-ordered : goal.run_to_end-requires-in-Served-clause-ordered
run_to_end-requires-in-Served-clause-ordered g c = subst (λ (w : Way Standing OrderedRun). IsOrdered c.args.start.asked (marking_in w)) c.in-Served.is c.requires.ordered

pub run_to_end-requires-in-Served-clause-counted : goal.run_to_end-requires-in-Served-clause-counted
run_to_end-requires-in-Served-clause-counted g c = uncounted c.args.start.asked c.in-Served.served.marking (subst (λ (w : Way Standing OrderedRun). IsOrdered c.args.start.asked (marking_in w)) c.in-Served.is c.requires.ordered)

pub returns-in-Served-clause-ends : goal.returns-in-Served-clause-ends
returns-in-Served-clause-ends g c = λ s at_start. c.run_to_end-in-Served.ensures.ends s (subst (λ (w : Way Standing OrderedRun). StandsAt c.args.start.asked (standing_in w) s) c.in-Served.is at_start)

pub returns-in-Served-clause-visits : goal.returns-in-Served-clause-visits
returns-in-Served-clause-visits g c = λ s at_start. c.run_to_end-in-Served.ensures.visits s (subst (λ (w : Way Standing OrderedRun). StandsAt c.args.start.asked (standing_in w) s) c.in-Served.is at_start)

pub returns-in-Served-clause-leaves : goal.returns-in-Served-clause-leaves
returns-in-Served-clause-leaves g c = λ s at_start. c.run_to_end-in-Served.ensures.leaves s (subst (λ (w : Way Standing OrderedRun). StandsAt c.args.start.asked (standing_in w) s) c.in-Served.is at_start)

pub returns-in-Flat-clause-known : goal.returns-in-Flat-clause-known
returns-in-Flat-clause-known g c = c.run_to_end.ensures.known

pub returns-in-Flat-clause-write_fault : goal.returns-in-Flat-clause-write_fault
returns-in-Flat-clause-write_fault g c = c.run_to_end.ensures.write_fault

pub returns-in-Flat-clause-faults : goal.returns-in-Flat-clause-faults
returns-in-Flat-clause-faults g c = c.run_to_end.ensures.faults

pub returns-in-Served-clause-known : goal.returns-in-Served-clause-known
returns-in-Served-clause-known g c = c.run_to_end-in-Served.ensures.known

pub returns-in-Served-clause-write_fault : goal.returns-in-Served-clause-write_fault
returns-in-Served-clause-write_fault g c = c.run_to_end-in-Served.ensures.write_fault

pub returns-in-Served-clause-faults : goal.returns-in-Served-clause-faults
returns-in-Served-clause-faults g c = c.run_to_end-in-Served.ensures.faults
