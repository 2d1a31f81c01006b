use Rattle.std.proofs.Common.{rules, ◌≡◌, ◌++◌, [], ◌∷◌, length, refl, arith}
use Rattle.std.proofs.lemmas.Grind.{common_steps}
use Rattle.model_leaves.proofs.Shown.{row-put}
use Rattle.model_leaves.proofs.growing.Growing.seat.Goals as goal

pub returns-clause-ok : goal.returns-clause-ok
returns-clause-ok c =
    let parts : c.args.self.now.parts.items ≡ c.args.self.now.parts.items = refl in
    let names : c.put_copies.new.into.items ≡ c.args.self.now.ports.items ++ c.args.names.now = c.in_ok-put_copies.ensures in
    let rows : c.push.new.self.items ≡ c.args.self.now.rows.items ++ record { part = c.args.part; cell = c.args.cell; first_port = c.in_ok-first_port.first_port; ports = c.in_ok-ports.ports } ∷ [] = search rules in
    let first : c.in_ok-first_port.first_port ≡ length c.args.self.now.ports.items = grind (arith, common_steps) in
    let count : c.in_ok-ports.ports ≡ length c.args.names.now = grind (arith, common_steps) in
    λ p e before old. row-put _ _ _ _ c.args.names.now _ _ _ before p parts names rows first count e old
