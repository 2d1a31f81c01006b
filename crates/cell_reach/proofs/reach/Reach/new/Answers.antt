use Rattle.std.proofs.Common.{◌<◌, map, pos, length, sym, ap, ◌∙◌, arith}
use Rattle.quantity.specs.declared.place.Offset.{Offset}
use Rattle.cell_grid.specs.Watched.{opposite}
use Rattle.cell_reach.proofs.Pushed.{ahead_more, back_more, space_kept, all_ahead}
use Rattle.cell_reach.proofs.reach.Reach.new.Goals as goal

pub returns : goal.returns
returns c = all_ahead c.args.offsets.now c.loop-offset.offset-index c.loop-offset.ahead c.args.grid (omega arith) c.loop-offset.invariant.ahead_space c.loop-offset.invariant.ahead

pub invariant_of-result : goal.invariant_of-result
invariant_of-result c =
    let held = c.loop-offset.invariant in
    (held.back_space ∙ sym held.ahead_space, held.back ∙ ap (map opposite) (sym held.ahead))

pub loop-offset-preserved : goal.loop-offset-preserved
loop-offset-preserved c =
    let held = c.loop-offset.invariant in
    let none : Offset = record { row = pos 0; column = pos 0; plane = pos 0 } in
    let lt : c.loop-offset.offset-index < length c.args.offsets.now = omega arith in
    record {
      ahead_space = space_kept c.loop-offset.ahead c.push.new.self c.args.grid _ held.ahead_space c.in_ok-push.ensures.ok;
      back_space = space_kept c.loop-offset.back c.push-in-loop-offset.new.self c.args.grid _ held.back_space c.in_ok-push-2.ensures.ok;
      ahead = ahead_more c.args.offsets.now c.loop-offset.offset-index none _ c.loop-offset.ahead c.push.new.self lt c.along.ensures held.ahead c.in_ok-push.ensures.ok;
      back = back_more c.args.offsets.now c.loop-offset.offset-index none _ c.loop-offset.back c.push-in-loop-offset.new.self lt c.back-in-loop-offset.ensures held.back c.in_ok-push-2.ensures.ok;
    }
