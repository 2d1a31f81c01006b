use Rattle.std.proofs.Common.{List, sym, subst}
use Rattle.std.specs.List.{All}
use Rattle.std.specs.Vec.{vec_capacity}
use Rattle.model_tree.specs.Tree.{leaves}
use Rattle.run_model.specs.Cycle.{LeafState}
use Rattle.run_leaves.specs.Waiting.{WaitsAtStart}
use Rattle.run_leaves.proofs.AtStart.{initial-wait}
use Rattle.flat_run.specs.Changes.{tree_with}
use Rattle.flat_run.proofs.Starts.{as-many-wait, stands-at-start, made-holds}
use Rattle.flat_run.proofs.run.FlatRun.new.Goals as goal

pub wait_all-requires-clause-start : goal.wait_all-requires-clause-start
wait_all-requires-clause-start g c =
    subst (λ (states : List LeafState). All WaitsAtStart states) (sym c.in_ok-parts.ensures.states_are) (initial-wait (leaves (tree_with c.args.model c.args.stock)))

pub invariant_of-result : goal.invariant_of-result
invariant_of-result g c =
    let p = c.in_ok-parts.parts in
    made-holds c.routes_are_ready.ensures c.records_name_what_there_is.ensures.start c.args.model c.args.stock c.args.routes c.args.events (g.Q.TimeQueue.waiting c.args.queue)
    p.leaves p.watchers (g.Q.TimeQueue.waiting c.wait_all.new.queue) p.work.woken p.work.touched (vec_capacity p.work.due) (vec_capacity p.work.moving)
    c.args.end c.args.limit c.requires.starts c.in_ok-parts.ensures c.wait_all.ensures c.requires.end c.requires.limit

pub wait_all-requires-clause-queue : goal.wait_all-requires-clause-queue
wait_all-requires-clause-queue g c =
    as-many-wait c.args.model c.args.stock c.args.routes c.args.events (g.Q.TimeQueue.waiting c.args.queue) c.in_ok-parts.parts.leaves.states
    c.requires.starts c.in_ok-parts.ensures.states_are

pub returns-clause-state : goal.returns-clause-state
returns-clause-state g c =
    let made = c.in_ok-parts.ensures in
    stands-at-start c.args.model c.args.stock c.in_ok-parts.parts.leaves c.args.events made.model_is made.settings_are made.states_are
