use Rattle.std.proofs.Common.{None, set, refl, arith}
use Rattle.time_queue.proofs.Steps.{takes_one, one_fewer}
use Rattle.time_queue.proofs.Lines.{next_alike}
use Rattle.time_queue.proofs.lists.Lists.take_loose.Goals as goal

pub push_reserved-requires : goal.push_reserved-requires
push_reserved-requires c =
    let ts = c.args.self.now.times.items in
    let fewer = one_fewer c.args.at c.args.leaf ts (set ts c.args.leaf None) c.requires.waits refl in
    omega (arith, c.requires.room, fewer)

pub returns-clause-taken : goal.returns-clause-taken
returns-clause-taken c = takes_one c.args.at c.args.leaf _ _ _ _ c.requires.waits c.release.ensures.times c.push_reserved.ensures.items

pub returns-clause-fewer : goal.returns-clause-fewer
returns-clause-fewer c = one_fewer c.args.at c.args.leaf _ _ c.requires.waits c.release.ensures.times

pub returns-clause-waits : goal.returns-clause-waits
returns-clause-waits c = next_alike c.args.self.now c.release.new.self c.args.leaf c.args.at c.release.result c.requires.linked c.requires.waits c.release.ensures.next c.release.ensures.times
