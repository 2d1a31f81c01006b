use Rattle.std.proofs.Common.{ℕ, List, ap, ◌∙◌}
use Rattle.std.proofs.lemmas.List.{take_all}
use Rattle.route_flat.specs.Counts.{sum_of}
use Rattle.route_flat.proofs.counts.sum_of.Goals as goal

pub returns : goal.returns
returns c =
    c.loop-node.invariant ∙ ap (λ (ns : List ℕ). sum_of ns c.args.counts.now) (take_all c.loop-node.node-index c.args.nodes.now c.loop-node-test.false)
