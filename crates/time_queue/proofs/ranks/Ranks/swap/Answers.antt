use Rattle.std.proofs.Common.{rules, ◌≡◌}
use Rattle.std.specs.Prelude.{slice_index}
use Rattle.std.specs.List.{swap}
use Rattle.std.proofs.lemmas.Grind.{common_steps}
use Rattle.time_queue.proofs.Standing.{inverse_swapped}
use Rattle.time_queue.proofs.ranks.Ranks.swap.Goals as goal

pub invariant_of-self : goal.invariant_of-self
invariant_of-self c =
    let order = c.args.self.now.order.items in
    let one : c.index.result.now ≡ slice_index order c.args.i = search (rules, common_steps) in
    let other : c.index-2.result.now ≡ slice_index order c.args.j = search (rules, common_steps) in
    let swapped : c.swap-2.new.self.items ≡ swap order c.args.i c.args.j = search rules in
    let places : c.swap.new.self.items ≡ swap c.args.self.now.places.items c.index.result.now c.index-2.result.now = search rules in
    record { inverse = inverse_swapped order c.swap-2.new.self.items c.args.self.now.places.items c.swap.new.self.items c.args.i c.args.j c.index.result.now c.index-2.result.now c.args.self.now.inverse c.requires.first c.requires.second one other swapped places }
