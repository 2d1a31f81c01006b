use Rattle.std.proofs.Common.{rules, ◌≡◌, ◌++◌, [], ◌∷◌, length, arith}
use Rattle.std.proofs.lemmas.Grind.{common_steps}
use Rattle.model_leaves.specs.declared.path.Source.TheVariants.{Leaf}
use Rattle.port_net.specs.declared.net.Node.TheVariants.{Given}
use Rattle.port_net.proofs.Stood.{leaf-put}
use Rattle.port_net.proofs.nodes.give.Goals as goal

pub returns-clause-gives : goal.returns-clause-gives
returns-clause-gives c =
    let pushed : c.push.new.self.items ≡ c.args.nodes.now.items ++ Given (Leaf c.args.leaf) ∷ [] = search rules in
    let number : c.in_ok-number.number ≡ length c.args.nodes.now.items = grind (arith, common_steps) in
    leaf-put c.args.nodes.now.items c.push.new.self.items c.args.leaf c.in_ok-number.number pushed number
