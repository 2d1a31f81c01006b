use Rattle.std.proofs.Common.{◌≤◌, rules, refl, ◌∙◌, FitsSigned, w32}
use Rattle.std.proofs.lemmas.Int.{to_z-of_z}
use Rattle.cell_grid.specs.Space.{cell_count}
use Rattle.cell_reach.proofs.Fixed.{pushed_inner, same_inner}
use Rattle.cell_reach.proofs.strides.Strides.push.Goals as goal

pub invariant_of-self : goal.invariant_of-self
invariant_of-self c =
    same_inner c.self.inside.grid c.self.inside.inner c.self.inside.steps.items c.reserve.new.self.items c.self.inside.differences.items c.self.inside.differences.items
    c.reserve.ensures.items refl c.self.invariant

pub invariant_of-self-in_err-reserve-2 : goal.invariant_of-self-in_err-reserve-2
invariant_of-self-in_err-reserve-2 c =
    same_inner c.self.inside.grid c.self.inside.inner c.self.inside.steps.items c.reserve.new.self.items c.self.inside.differences.items c.reserve-2.new.self.items
    c.reserve.ensures.items c.reserve-2.ensures.items c.self.invariant

pub invariant_of-self-2 : goal.invariant_of-self-2
invariant_of-self-2 c =
    let few : cell_count c.self.inside.grid ≤ 1048576 = search rules in
    let small : FitsSigned w32 c.difference.result = search rules in
    let before = same_inner c.self.inside.grid c.self.inside.inner c.self.inside.steps.items c.reserve.new.self.items c.self.inside.differences.items c.reserve-2.new.self.items
    c.reserve.ensures.items c.reserve-2.ensures.items c.self.invariant in
    pushed_inner c.self.inside.grid c.self.inside.inner c.narrowed-self-inside.result c.args.step _ c.reserve.new.self.items c.reserve-2.new.self.items
    few (λ near. to_z-of_z w32 c.difference.result small ∙ c.difference.ensures near) before c.narrowed-self-inside.ensures.within c.narrowed-self-inside.ensures.stay c.narrowed-self-inside.ensures.all
    c.push_reserved.new.self.items c.push_reserved-2.new.self.items c.push_reserved.ensures.items c.push_reserved-2.ensures.items
