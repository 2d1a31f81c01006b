use Rattle.std.proofs.Common.{◌≡◌, ◌<◌, ◌≤◌, Some, length, get_or, set, pos, ◌∙◌, arith}
use Rattle.std.proofs.lemmas.List.{length-map}
use Rattle.cell_reach.specs.Neighbourhoods.{neighbours, opposite_neighbourhood, further}
use Rattle.cell_engine.specs.Step.{near}
use Rattle.cell_engine.specs.Tallied.{last_value_shown, outs_of}
use Rattle.cell_engine.proofs.Far.{further_is}
use Rattle.cell_engine.proofs.Tallying.{midway_more, within_at, can_at, all_moved, at_difference, as_many}
use Rattle.cell_engine.proofs.tallies.move_further.Goals as goal

pub loop-difference-init : goal.loop-difference-init
loop-difference-init c = c.requires.tallies

pub move_one-requires : goal.move_one-requires
move_one-requires c =
    let n = near c.args.plan.now in
    let tb = c.args.table.now in
    let i = c.args.i in
    let k = c.loop-difference.difference-index in
    let ds = c.args.differences.now in
    let d = get_or ds k (pos 0) in
    let ts = c.loop-difference.tallies in
    let lt : k < length ds = c.loop-difference-test.true in
    let x = c.further.result in
    let is : x ≡ further i d = further_is (length c.args.tallies.now) i x d c.requires.number c.requires.most (c.requires.inside k (pos 0) lt) c.further.ensures in
    let at = at_difference i ds (neighbours (opposite_neighbourhood n) i) k x lt c.requires.lead is in
    let many = as_many n i ds c.requires.lead in
    let short : k < length n.offsets = omega (arith, lt, many) in
    let long = length-map tb.cells last_value_shown ∙ c.requires.cells in
    let whole = c.loop-difference.auto.tallies ∙ c.requires.whole in
    record {
      within = within_at n (outs_of tb) i c.args.before.now c.args.gone c.args.come c.requires.cell long c.requires.gone c.requires.come ts k (Some x) short whole at;
      can = can_at n (outs_of tb) i c.args.before.now c.args.gone c.args.come c.requires.cell long c.requires.gone c.requires.come ts k (Some x) short c.requires.few whole at c.loop-difference.invariant;
    }

pub loop-difference-preserved : goal.loop-difference-preserved
loop-difference-preserved c =
    let n = near c.args.plan.now in
    let tb = c.args.table.now in
    let i = c.args.i in
    let k = c.loop-difference.difference-index in
    let ds = c.args.differences.now in
    let d = get_or ds k (pos 0) in
    let lt : k < length ds = c.loop-difference-test.true in
    let x = c.further.result in
    let is : x ≡ further i d = further_is (length c.args.tallies.now) i x d c.requires.number c.requires.most (c.requires.inside k (pos 0) lt) c.further.ensures in
    let at = at_difference i ds (neighbours (opposite_neighbourhood n) i) k x lt c.requires.lead is in
    let many = as_many n i ds c.requires.lead in
    let short : k < length n.offsets = omega (arith, lt, many) in
    let long = length-map tb.cells last_value_shown ∙ c.requires.cells in
    let whole = c.loop-difference.auto.tallies ∙ c.requires.whole in
    midway_more n (outs_of tb) i c.args.before.now c.args.gone c.args.come c.requires.cell long c.requires.gone c.requires.come c.loop-difference.tallies c.move_one.new.tallies k (Some x)
    short whole at c.move_one.ensures c.move_one.auto.tallies c.loop-difference.invariant

pub returns : goal.returns
returns c =
    let n = near c.args.plan.now in
    let es = outs_of c.args.table.now in
    let k = c.loop-difference.difference-index in
    let many = as_many n c.args.i c.args.differences.now c.requires.lead in
    let past : length n.offsets ≤ k = omega (arith, c.loop-difference-test.false, many) in
    all_moved n (set es c.args.i c.args.before.now) es k c.loop-difference.tallies past c.loop-difference.invariant
