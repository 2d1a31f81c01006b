use Rattle.std.proofs.Common.{rules, ◌≡◌, ◌++◌, [], ◌∷◌, List, sym, ap, ◌∙◌, arith}
use Rattle.std.proofs.lemmas.Grind.{common_steps}
use Rattle.std.proofs.lemmas.List.FromFn.{map-range_with_len_more}
use Rattle.port_net.specs.declared.net.Node.{Node}
use Rattle.port_net.specs.Shown.{input_node}
use Rattle.port_net.proofs.making.inputs.Goals as goal

pub loop-i-preserved : goal.loop-i-preserved
loop-i-preserved c =
    let number : c.in_ok-number.number ≡ c.loop-i.i = grind (arith, common_steps) in
    let pushed : c.push.new.self.items ≡ c.loop-i.nodes.items ++ input_node c.in_ok-number.number ∷ [] = search rules in
    pushed ∙ ap (λ n. c.loop-i.nodes.items ++ input_node n ∷ []) number ∙ ap (λ (ns : List Node). ns ++ input_node c.loop-i.i ∷ []) c.loop-i.invariant
    ∙ sym (map-range_with_len_more input_node 0 c.loop-i.i c.loop-i.i (omega arith))
