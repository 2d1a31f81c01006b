use Rattle.std.proofs.Common.{◌≤◌, ◌<◌, length, arith}
use Rattle.flat_run.proofs.Starts.{none-wait, one-more-waits, all-wait}
use Rattle.flat_run.proofs.start.wait_all.Goals as goal

pub loop-leaf-init : goal.loop-leaf-init
loop-leaf-init g c = none-wait (g.Q.TimeQueue.waiting c.args.queue.now) c.args.leaves.now.states c.requires.queue

pub loop-leaf-preserved : goal.loop-leaf-preserved
loop-leaf-preserved g c =
    let states = c.args.leaves.now.states in
    let count = c.count-leaf-end.ensures in
    let within : c.loop-leaf.leaf < length states = omega (arith, count, c.loop-leaf-test.true) in
    one-more-waits c.loop-leaf.leaf (g.Q.TimeQueue.waiting c.loop-leaf.queue) (g.Q.TimeQueue.waiting c.wait.new.queue) states within c.wait.ensures c.loop-leaf.invariant

pub returns : goal.returns
returns g c =
    let count = c.count-leaf-end.ensures in
    let states = c.args.leaves.now.states in
    let all : length states ≤ c.loop-leaf.leaf = omega (arith, count) in
    all-wait c.loop-leaf.leaf (g.Q.TimeQueue.waiting c.loop-leaf.queue) states all c.loop-leaf.invariant
