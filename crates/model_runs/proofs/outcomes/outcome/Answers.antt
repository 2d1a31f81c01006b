use Rattle.std.proofs.Common.{◌≡◌, ◌≤◌, max, arith, rules}
use Rattle.std.proofs.lemmas.List.Elements.{All-push, All-weaker}
use Rattle.rule_forms.specs.Depth.{rule_depth}
use Rattle.model_runs.proofs.outcomes.outcome.Goals as goal

pub loop-tree-preserved : goal.loop-tree-preserved
loop-tree-preserved c =
    let more : c.max-depth.result ≡ max c.loop-tree.depth c.depth.result = search rules in
    let deeper = All-weaker (λ r. rule_depth r ≤ c.loop-tree.depth) (λ r. rule_depth r ≤ c.max-depth.result) (λ r h. omega arith) c.loop-tree.codes.items c.loop-tree.invariant in
    let here : rule_depth c.in_ok-code.code ≤ c.max-depth.result = omega (arith, c.depth.ensures) in
    rw c.in_ok-add.ensures (All-push (λ r. rule_depth r ≤ c.max-depth.result) c.loop-tree.codes.items c.in_ok-code.code deeper here)
