use Rattle.std.proofs.Common.{◌∙◌, None, ap, arith}
use Rattle.std.specs.List.{flat_map}
use Rattle.std.proofs.lemmas.List.{take_all}
use Rattle.cell_engine.specs.Step.{given_by}
use Rattle.cell_engine.proofs.Grown.{joined_more, longer}
use Rattle.cell_engine.proofs.sight.see_all.Goals as goal

pub loop-neighbour-preserved : goal.loop-neighbour-preserved
loop-neighbour-preserved c =
    let k = c.loop-neighbour.neighbour-index in
    record {
      seen = joined_more (given_by c.args.table.now) c.args.neighbours.now k None c.loop-neighbour.seen.items c.see.new.seen.items c.loop-neighbour-test.true c.loop-neighbour.invariant.seen c.see.ensures.seen;
      long = longer _ _ k c.args.table.now.width c.loop-neighbour.invariant.long (omega (arith, c.see.ensures.long, c.see.new.seen.ok.0, c.loop-neighbour.seen.ok.0));
      same = c.see.ensures.capacity ∙ c.loop-neighbour.invariant.same;
    }

pub returns-clause-seen : goal.returns-clause-seen
returns-clause-seen c =
    c.loop-neighbour.invariant.seen ∙ ap (flat_map (given_by c.args.table.now)) (take_all c.loop-neighbour.neighbour-index c.args.neighbours.now c.loop-neighbour-test.false)
