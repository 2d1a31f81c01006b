use Rattle.std.proofs.Common.{◌∙◌, ap, sym}
use Rattle.std.specs.Prelude.{map}
use Rattle.cell_grid.specs.Space.{place_of}
use Rattle.cell_reach.specs.Neighbourhoods.{Neighbourhood, neighbours}
use Rattle.cell_engine.specs.Step.{near, out_of}
use Rattle.cell_engine.proofs.Looking.{found_cells, leads_below, looked_further}
use Rattle.cell_engine.proofs.sight.look_at_outs.Goals as goal

pub see_further-requires-clause-inside : goal.see_further-requires-clause-inside
see_further-requires-clause-inside c =
    let is = c.plan.invariant.near ∙ ap near c.plan.view_is in
    let here = c.requires.place ∙ sym (ap (λ (n : Neighbourhood). place_of n.space c.args.i) is) in
    leads_below c.args.plan.now c.plan.inside.reach c.args.i c.args.emitted.now c.in-Some.differences.now is (c.in-Some.ensures.far c.args.i here) c.requires.cells

pub returns-in-Some : goal.returns-in-Some
returns-in-Some c =
    let is = c.plan.invariant.near ∙ ap near c.plan.view_is in
    let here = c.requires.place ∙ sym (ap (λ (n : Neighbourhood). place_of n.space c.args.i) is) in
    c.see_further.ensures
    ∙ looked_further c.args.plan.now c.plan.inside.reach c.args.i c.args.emitted.now c.in-Some.differences.now is (c.in-Some.ensures.far c.args.i here)

pub see_outs-requires-clause-cells : goal.see_outs-requires-clause-cells
see_outs-requires-clause-cells c =
    found_cells c.args.plan.now c.plan.inside.reach _ c.args.i c.neighbours.new.into (c.plan.invariant.near ∙ ap near c.plan.view_is) c.requires.cells c.requires.cell c.neighbours.ensures

pub returns-in-None : goal.returns-in-None
returns-in-None c =
    c.see_outs.ensures
    ∙ ap (map (out_of c.args.emitted.now)) (c.neighbours.ensures ∙ ap (λ (n : Neighbourhood). neighbours n c.args.i) (c.plan.invariant.near ∙ ap near c.plan.view_is))
