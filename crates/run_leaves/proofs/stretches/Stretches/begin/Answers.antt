use Rattle.std.proofs.Common.{◌≡◌, ◌+◌, ◌++◌, true, [], ◌∷◌, List, ℕ, length, sym, ◌∙◌, ap, subst, arith, rules}
use Rattle.std.specs.Result.{is_ok}
use Rattle.run_leaves.specs.Stretched.{Stretched, with_stretch, AreStretches}
use Rattle.run_leaves.proofs.Joined.{pushed}
use Rattle.run_leaves.proofs.Stretched.{numbers-long, shown, begun-shown, begun-stretches}
use Rattle.run_leaves.proofs.stretches.Stretches.begin.Goals as goal

pub overflow_add-self : goal.overflow_add-self
overflow_add-self c =
    let s = c.self.inside in
    let long = numbers-long s.starts.items s.leaves in
    let same = ap (λ (x : Stretched). length x.numbers) c.self.view_is in
    omega (arith, long, same, c.requires)

pub invariant_of-self-2 : goal.invariant_of-self-2
invariant_of-self-2 c =
    let s = c.self.inside in
    let ok : is_ok c.push.result ≡ true = search rules in
    let starts = pushed c.push.result s.starts.items c.push.new.self.items s.leaves c.push.ensures.items ok in
    let near = c.near_end-self-inside in
    let many : c.len.result ≡ length (s.starts.items ++ s.leaves ∷ []) = c.len.ensures ∙ c.push.new.self.ok.0 ∙ ap length starts in
    subst (λ (ss : List ℕ). AreStretches ss near.result (s.leaves + 1)) (sym starts)
    (begun-stretches s.starts.items s.near near.result s.leaves c.self.invariant (λ one. near.ensures.one (many ∙ one)) (λ more. near.ensures.more (omega (arith, many, more))))

pub returns-clause-ok : goal.returns-clause-ok
returns-clause-ok c =
    let s = c.self.inside in
    let ok : is_ok c.push.result ≡ true = search rules in
    let starts = pushed c.push.result s.starts.items c.push.new.self.items s.leaves c.push.ensures.items ok in
    ap (λ (ss : List ℕ). shown ss (s.leaves + 1)) starts
    ∙ begun-shown s.starts.items s.leaves c.self.invariant.below ∙ ap with_stretch c.self.view_is
