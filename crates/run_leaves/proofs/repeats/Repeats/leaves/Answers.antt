use Rattle.std.proofs.Common.{length, sym, ◌∙◌, ap}
use Rattle.run_leaves.proofs.Repeated.{long}
use Rattle.run_leaves.proofs.repeats.Repeats.leaves.Goals as goal

pub returns : goal.returns
returns g c =
    let r = c.self.inside in
    c.leaves.ensures ∙ sym (long r.each.items r.stretches.numbers r.stretches.many c.self.invariant) ∙ ap length c.self.view_is
