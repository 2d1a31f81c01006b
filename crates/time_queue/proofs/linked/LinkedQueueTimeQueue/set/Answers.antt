use Rattle.std.proofs.Common.{Some, None, set, ◌∙◌, ap}
use Rattle.std.proofs.lemmas.List.{set-set}
use Rattle.time_queue.proofs.linked.LinkedQueueTimeQueue.set.Goals as goal

pub returns : goal.returns
returns c =
    c.enter.ensures.times ∙ ap (λ ts. set ts c.args.leaf (Some c.args.at)) c.leave.ensures.times ∙ set-set c.self.inside.lists.times.items c.args.leaf None (Some c.args.at)
    ∙ ap (λ ts. set ts c.args.leaf (Some c.args.at)) c.self.view_is
