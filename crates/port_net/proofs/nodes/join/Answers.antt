use Rattle.std.proofs.Common.{rules, ◌≡◌, ◌++◌, [], ◌∷◌, length, refl, arith}
use Rattle.std.proofs.lemmas.Grind.{common_steps}
use Rattle.port_net.specs.declared.net.Node.TheVariants.{Joins}
use Rattle.port_net.proofs.Stood.{joined-put}
use Rattle.port_net.proofs.nodes.join.Goals as goal

pub returns-clause-joins : goal.returns-clause-joins
returns-clause-joins c =
    let pushed : c.push.new.self.items ≡ c.args.nodes.now.items ++ Joins c.args.older ∷ [] = search rules in
    let number : c.in_ok-number.number ≡ length c.args.nodes.now.items = grind (arith, common_steps) in
    joined-put c.args.nodes.now.items c.push.new.self.items (Joins c.args.older) c.args.older.items c.in_ok-number.number pushed refl number
