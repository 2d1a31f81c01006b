use Rattle.std.proofs.Common.{◌≡◌, ◌∙◌, ◌++◌, [], ◌∷◌, true, length, ap, arith, rules}
use Rattle.std.specs.Result.{is_ok}
use Rattle.run_leaves.proofs.Joined.{pushed}
use Rattle.run_leaves.proofs.blocks.begin.Goals as goal

pub returns-clause-begun : goal.returns-clause-begun
returns-clause-begun c =
    let blocks = c.args.blocks.now.items in
    let group = c.args.group.now in
    let ok : is_ok c.push.result ≡ true = search rules in
    let most : c.len-most.result ≡ length group.offsets.items = omega (arith, c.len-most.ensures, group.offsets.ok.0) in
    let reach : c.in_ok-reach.reach ≡ record { space = group.grid; offsets = group.offsets.items } = c.in_ok-reach.ensures ∙ ap (λ os. record { space = group.grid; offsets = os }) c.deref.ensures.value in
    pushed c.push.result blocks c.push.new.self.items _ c.push.ensures.items ok
    ∙ (λ k. blocks ++ record { first = c.args.first; most = most k; reach = reach k } ∷ [])
