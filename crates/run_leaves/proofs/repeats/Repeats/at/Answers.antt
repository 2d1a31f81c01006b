use Rattle.std.proofs.Common.{length, sym, ◌∙◌, ap, arith}
use Rattle.std.specs.Prelude.{slice_get}
use Rattle.run_leaves.proofs.Places.{read-at}
use Rattle.run_leaves.proofs.Repeated.{inside, long, element-at}
use Rattle.run_leaves.proofs.repeats.Repeats.at.Goals as goal

pub at-requires : goal.at-requires
at-requires g c =
    let r = c.self.inside in
    let as_long = long r.each.items r.stretches.numbers r.stretches.many c.self.invariant in
    let same = ap length c.self.view_is in
    omega (arith, as_long, same, c.requires)

pub returns : goal.returns
returns g c =
    let r = c.self.inside in
    let xs = r.each.items in
    let within = inside xs r.stretches.numbers r.stretches.many c.self.invariant in
    let lt = within c.args.leaf c.at.result c.at.ensures in
    ap (λ ys. slice_get ys c.args.leaf) (sym c.self.view_is)
    ∙ element-at xs r.stretches.numbers within c.args.leaf c.at.result c.index.result.now c.at.ensures (read-at xs c.at.result c.index.result.now lt c.index.ensures)
