use Rattle.std.proofs.Common.{◌≡◌, ◌<◌, length, ◌∙◌, ap, arith}
use Rattle.run_leaves.specs.Stretched.{Stretched, with_leaf}
use Rattle.run_leaves.proofs.Stretched.{numbers-long, gone-shown, gone-stretches}
use Rattle.run_leaves.proofs.stretches.Stretches.go_on.Goals as goal

pub overflow_add-self : goal.overflow_add-self
overflow_add-self c =
    let s = c.self.inside in
    let long = numbers-long s.starts.items s.leaves in
    let same = ap (λ (x : Stretched). length x.numbers) c.self.view_is in
    omega (arith, long, same, c.requires.few)

pub invariant_of-self : goal.invariant_of-self
invariant_of-self c =
    let s = c.self.inside in
    let near = c.near_end-self-inside in
    let many : c.len.result ≡ length s.starts.items = c.len.ensures ∙ s.starts.ok.0 in
    let same = ap (λ (x : Stretched). x.many) c.self.view_is in
    let some : 0 < length s.starts.items = omega (arith, same, c.requires.begun) in
    gone-stretches s.starts.items s.near near.result s.leaves c.self.invariant some (λ one. near.ensures.one (many ∙ one)) (λ more. near.ensures.more (omega (arith, many, more)))

pub returns : goal.returns
returns c =
    let s = c.self.inside in
    gone-shown s.starts.items s.leaves c.self.invariant.below ∙ ap with_leaf c.self.view_is
