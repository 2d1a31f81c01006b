use Rattle.std.proofs.Common.{◌<◌, Some, length, sym, ◌∙◌, ap, arith}
use Rattle.std.specs.Prelude.{slice_get}
use Rattle.run_leaves.specs.Stretched.{Stretched, number_at}
use Rattle.run_leaves.proofs.Stretched.{numbers-long, number-there}
use Rattle.run_leaves.proofs.stretches.Stretches.at.Goals as goal

pub returns-then-leaf-self : goal.returns-then-leaf-self
returns-then-leaf-self c =
    let s = c.self.inside in
    let first = c.self.invariant.near_first c.args.leaf c.if-leaf-self.true in
    let end = c.self.invariant.near_end in
    let before : c.args.leaf < s.leaves = omega (arith, end, c.if-leaf-self.true) in
    ap (λ (x : Stretched). slice_get x.numbers c.args.leaf) (sym c.self.view_is)
    ∙ number-there s.starts.items s.leaves c.args.leaf before ∙ ap Some first

pub returns-else-leaf-self : goal.returns-else-leaf-self
returns-else-leaf-self c =
    let s = c.self.inside in
    let long = numbers-long s.starts.items s.leaves in
    let same = ap (λ (x : Stretched). length x.numbers) c.self.view_is in
    let before : c.args.leaf < s.leaves = omega (arith, long, same, c.requires) in
    ap (λ (x : Stretched). slice_get x.numbers c.args.leaf) (sym c.self.view_is)
    ∙ number-there s.starts.items s.leaves c.args.leaf before
    ∙ ap (λ ss. Some (number_at ss c.args.leaf)) (sym c.deref.ensures.value) ∙ ap Some (sym c.further.ensures)
