use Rattle.std.proofs.Common.{length, sym, ◌∙◌, ap}
use Rattle.run_leaves.specs.Stretched.{Stretched}
use Rattle.run_leaves.proofs.Stretched.{numbers-long}
use Rattle.run_leaves.proofs.stretches.Stretches.leaves.Goals as goal

pub returns : goal.returns
returns c =
    let s = c.self.inside in
    sym (numbers-long s.starts.items s.leaves) ∙ ap (λ (x : Stretched). length x.numbers) c.self.view_is
