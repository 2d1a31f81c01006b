use Rattle.std.proofs.Common.{rules, ◌≡◌, ◌++◌, [], ◌∷◌, length, refl, arith}
use Rattle.std.proofs.lemmas.Grind.{common_steps}
use Rattle.port_net.proofs.Rowed.{leaf-put}
use Rattle.port_net.proofs.growing.Growing.put.Goals as goal

pub returns-clause-ok : goal.returns-clause-ok
returns-clause-ok c =
    let ports : c.extend_from_slice.new.self.items ≡ c.args.self.now.ports.items ++ c.args.row.now = search rules in
    let leaves : c.push.new.self.items ≡ c.args.self.now.leaves.items ++ record { first = c.in_ok-first.first; count = c.in_ok-count.count } ∷ [] = search rules in
    let first : c.in_ok-first.first ≡ length c.args.self.now.ports.items = grind (arith, common_steps) in
    let count : c.in_ok-count.count ≡ length c.args.row.now = grind (arith, common_steps) in
    leaf-put c.args.self.now _ c.args.row.now _ refl ports leaves first count
