use Rattle.std.proofs.Common.{◌∙◌, ap, sym, eqb, ◌||◌}
use Rattle.std.specs.List.{list_any}
use Rattle.std.proofs.lemmas.List.Filters.{dedup_is}
use Rattle.quantity.specs.Bytes.{has_number}
use Rattle.cycle_steps.specs.Untimed.{y_records}
use Rattle.cycle_steps.specs.Leading.{leads_from_leaf, leads_from_top}
use Rattle.cycle_steps.proofs.Reached.{numbers-are}
use Rattle.cycle_steps.proofs.reach.reach.Goals as goal

pub returns-clause-ok : goal.returns-clause-ok
returns-clause-ok g c =
    let ps = g.R.Routing.paths c.args.routes.now in
    numbers-are ps (y_records c.args.y.now) c.args.inputs.now c.reach_from_all.new.into.items c.sort_unstable.new.self.items c.dedup.new.self.items
    (λ k. c.in-Ok.ensures k
    ∙ ap (λ ls. (has_number ls k || list_any (leads_from_leaf ps k) (y_records c.args.y.now)) || list_any (leads_from_top ps k) c.args.inputs.now) c.requires)
    c.sort_unstable.ensures.permutation c.sort_unstable.ensures.sorted (dedup_is eqb c.sort_unstable.new.self.items c.dedup.new.self.items c.dedup.ensures.filtered)

pub returns-in_default-clause-err : goal.returns-in_default-clause-err
returns-in_default-clause-err g c = c.clear.ensures.items ∙ sym c.requires
