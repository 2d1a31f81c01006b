use Rattle.std.proofs.Common.{◌∙◌, ◌+◌, drop, refl}
use Rattle.cycle_steps.specs.Gathering.{value_count}
use Rattle.sparse_cycle.specs.Collect.{collect_each}
use Rattle.cycle_steps.proofs.Gathered.{collects-more, gave-more, visits-more, visits-end, can-more, gathers-start, due-here, collects-end, visits-within, same-bound}
use Rattle.cycle_steps.proofs.Stops.{stopped}
use Rattle.cycle_steps.proofs.collect.collect_all.Goals as goal

-- all that is so where memory ends as a leaf gives
pub returns-in_err-emit : goal.returns-in_err-emit
returns-in_err-emit g c =
    let end = c.from_residual.result in
    let is = c.from_residual.ensures.0 in
    record {
      collected = stopped _ end is;
      stands = λ tree st. stopped _ end is;
      kept = c.emit.ensures.kept ∙ c.loop-leaf.invariant.kept;
      ports = stopped _ end is;
      most = stopped _ end is;
      visits = visits-end c.args.t c.loop-leaf.leaf-index c.args.due.now (g.G.Leaves.states c.loop-leaf.leaves) (g.G.Leaves.visits c.loop-leaf.steps) (g.G.Leaves.visits c.emit.new.steps) _ c.loop-leaf-test.true c.loop-leaf.invariant.visits c.emit.ensures.visits;
      gave = record { count = c.loop-leaf.leaf-index + 1; states = gave-more c.args.t c.loop-leaf.leaf-index c.args.due.now (g.G.Leaves.states c.args.leaves.now) (g.G.Leaves.states c.loop-leaf.leaves) (g.G.Leaves.states c.emit.new.self) c.loop-leaf-test.true c.loop-leaf.invariant.gave c.emit.ensures.leaves };
    }

-- all that is so where memory ends as its records are appended
pub returns-in_err-append_emitted : goal.returns-in_err-append_emitted
returns-in_err-append_emitted g c =
    let end = c.from_residual-in_err-append_emitted.result in
    let is = c.from_residual-in_err-append_emitted.ensures.0 in
    record {
      collected = stopped _ end is;
      stands = λ tree st. stopped _ end is;
      kept = c.emit.ensures.kept ∙ c.loop-leaf.invariant.kept;
      ports = stopped _ end is;
      most = stopped _ end is;
      visits = visits-end c.args.t c.loop-leaf.leaf-index c.args.due.now (g.G.Leaves.states c.loop-leaf.leaves) (g.G.Leaves.visits c.loop-leaf.steps) (g.G.Leaves.visits c.emit.new.steps) _ c.loop-leaf-test.true c.loop-leaf.invariant.visits c.emit.ensures.visits;
      gave = record { count = c.loop-leaf.leaf-index + 1; states = gave-more c.args.t c.loop-leaf.leaf-index c.args.due.now (g.G.Leaves.states c.args.leaves.now) (g.G.Leaves.states c.loop-leaf.leaves) (g.G.Leaves.states c.emit.new.self) c.loop-leaf-test.true c.loop-leaf.invariant.gave c.emit.ensures.leaves };
    }

-- all that is so where memory ends as it is noted
pub returns-in_err-append_giver : goal.returns-in_err-append_giver
returns-in_err-append_giver g c =
    let end = c.from_residual-in_err-append_giver.result in
    let is = c.from_residual-in_err-append_giver.ensures.0 in
    record {
      collected = stopped _ end is;
      stands = λ tree st. stopped _ end is;
      kept = c.emit.ensures.kept ∙ c.loop-leaf.invariant.kept;
      ports = stopped _ end is;
      most = stopped _ end is;
      visits = visits-end c.args.t c.loop-leaf.leaf-index c.args.due.now (g.G.Leaves.states c.loop-leaf.leaves) (g.G.Leaves.visits c.loop-leaf.steps) (g.G.Leaves.visits c.emit.new.steps) _ c.loop-leaf-test.true c.loop-leaf.invariant.visits c.emit.ensures.visits;
      gave = record { count = c.loop-leaf.leaf-index + 1; states = gave-more c.args.t c.loop-leaf.leaf-index c.args.due.now (g.G.Leaves.states c.args.leaves.now) (g.G.Leaves.states c.loop-leaf.leaves) (g.G.Leaves.states c.emit.new.self) c.loop-leaf-test.true c.loop-leaf.invariant.gave c.emit.ensures.leaves };
    }

pub loop-leaf-preserved : goal.loop-leaf-preserved
loop-leaf-preserved g c =
    let now = g.G.Leaves.states c.loop-leaf.leaves in
    let next = g.G.Leaves.states c.emit.new.self in
    record {
      can = can-more c.args.t c.loop-leaf.leaf-index c.args.due.now now next c.loop-leaf-test.true c.emit.ensures.leaves c.loop-leaf.invariant.can;
      gathers = collects-more c.args.t c.loop-leaf.leaf-index c.args.due.now now next (collect_each c.args.t c.args.due.now (g.G.Leaves.states c.args.leaves.now))
          c.loop-leaf.y.items c.loop-leaf.n.items c.append_emitted.new.y.items c.append_emitted.new.n.items c.loop-leaf.givers.items c.append_giver.new.givers.items c.deref.result.now c.deref-in-loop-leaf.result.now
          c.loop-leaf-test.true c.emit.ensures.leaves (c.deref.ensures.value ∙ c.in_ok-emit.ensures.given) (c.deref-in-loop-leaf.ensures.value ∙ c.in_ok-emit.ensures.given) c.loop-leaf.invariant.gathers
          c.in_ok-append_emitted.ensures.y c.in_ok-append_emitted.ensures.n c.in_ok-append_giver.ensures;
      stands = λ tree st. c.in_ok-emit.ensures.stands tree (c.loop-leaf.invariant.stands tree st);
      kept = c.emit.ensures.kept ∙ c.loop-leaf.invariant.kept;
      ports = c.in_ok-emit.ensures.ports ∙ c.loop-leaf.invariant.ports;
      most = c.in_ok-emit.ensures.most ∙ c.loop-leaf.invariant.most;
      visits = visits-more c.args.t c.loop-leaf.leaf-index c.args.due.now now next (g.G.Leaves.visits c.loop-leaf.steps) (g.G.Leaves.visits c.emit.new.steps) _ c.loop-leaf-test.true c.emit.ensures.leaves c.loop-leaf.invariant.visits c.emit.ensures.visits;
      gave = gave-more c.args.t c.loop-leaf.leaf-index c.args.due.now (g.G.Leaves.states c.args.leaves.now) now next c.loop-leaf-test.true c.loop-leaf.invariant.gave c.emit.ensures.leaves;
    }

pub emit-requires-clause-due : goal.emit-requires-clause-due
emit-requires-clause-due g c =
    due-here c.args.t c.loop-leaf.leaf-index c.args.due.now (g.G.Leaves.states c.loop-leaf.leaves) c.loop-leaf-test.true c.loop-leaf.invariant.can

pub returns-clause-collected : goal.returns-clause-collected
returns-clause-collected g c =
    collects-end c.args.t c.loop-leaf.leaf-index c.args.due.now (g.G.Leaves.states c.loop-leaf.leaves) (collect_each c.args.t c.args.due.now (g.G.Leaves.states c.args.leaves.now))
    c.loop-leaf.y.items c.loop-leaf.n.items c.loop-leaf.givers.items c.loop-leaf-test.false c.loop-leaf.invariant.gathers

pub returns-clause-visits : goal.returns-clause-visits
returns-clause-visits g c =
    visits-within (g.G.Leaves.visits c.loop-leaf.steps) (value_count (collect_each c.args.t (drop c.loop-leaf.leaf-index c.args.due.now) (g.G.Leaves.states c.loop-leaf.leaves))) _ c.loop-leaf.invariant.visits

pub loop-leaf-init : goal.loop-leaf-init
loop-leaf-init g c =
    let all = collect_each c.args.t c.args.due.now (g.G.Leaves.states c.args.leaves.now) in
    record {
      can = c.requires.due;
      gathers = gathers-start c.args.t all c.args.y.now.items c.args.n.now.items c.args.givers.now.items c.requires.y c.requires.n c.requires.givers;
      stands = λ tree st. st;
      kept = refl;
      ports = refl;
      most = refl;
      visits = same-bound (g.G.Leaves.visits c.args.steps.now + value_count all);
      gave = refl;
    }

pub returns-clause-stands : goal.returns-clause-stands
returns-clause-stands g c = λ tree st. c.loop-leaf.invariant.stands tree st

pub returns-clause-kept : goal.returns-clause-kept
returns-clause-kept g c = c.loop-leaf.invariant.kept

pub returns-clause-ports : goal.returns-clause-ports
returns-clause-ports g c = c.loop-leaf.invariant.ports

pub returns-clause-most : goal.returns-clause-most
returns-clause-most g c = c.loop-leaf.invariant.most

pub returns-clause-gave : goal.returns-clause-gave
returns-clause-gave g c = record { count = c.loop-leaf.leaf-index; states = c.loop-leaf.invariant.gave }
