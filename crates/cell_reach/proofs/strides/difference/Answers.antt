use Rattle.std.proofs.Common.{◌≤◌, rules, ℤ, sym, subst, ◌∙◌, FitsSigned, w32, w64}
use Rattle.std.specs.Int.RustNames.{unsigned_abs}
use Rattle.std.proofs.lemmas.Int.{to_z-of_z}
use Rattle.cell_reach.proofs.strides.difference.Goals as goal

pub returns : goal.returns
returns c = λ near.
    let small : FitsSigned w32 c.if_near.result = search rules in
    let fits : FitsSigned w64 c.distance.result = search rules in
    let is = to_z-of_z w64 c.distance.result fits ∙ c.distance.ensures in
    let Near : ℤ → Type 0 = λ z. unsigned_abs z ≤ 1048576 in
    to_z-of_z w32 c.if_near.result small ∙ c.if_near.ensures (subst Near (sym is) near) ∙ is
