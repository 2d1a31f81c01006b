use Rattle.std.proofs.Common.{◌∷◌, ◌++◌, [], length, sym, ◌∙◌, ap, arith}
use Rattle.std.proofs.lemmas.List.FromFn.{length-range_with_len}
use Rattle.time_queue.proofs.Standing.{inverse_start, range_more}
use Rattle.time_queue.proofs.ranks.Ranks.new.Goals as goal

pub push_reserved-requires : goal.push_reserved-requires
push_reserved-requires c =
    omega (arith, c.loop-leaf.order.ok.0, ap length c.loop-leaf.invariant.order, length-range_with_len 0 c.loop-leaf.leaf, c.loop-leaf.invariant.order_room)

pub loop-leaf-preserved : goal.loop-leaf-preserved
loop-leaf-preserved c =
    let i = c.loop-leaf.leaf in
    let held = c.loop-leaf.invariant in
    record {
      order = c.push_reserved.ensures.items ∙ ap (λ l. l ++ i ∷ []) held.order ∙ sym (range_more i);
      places = c.push_reserved-in-loop-leaf.ensures.items ∙ ap (λ l. l ++ i ∷ []) held.places ∙ sym (range_more i);
      order_room = omega (arith, held.order_room, c.push_reserved.ensures.capacity);
      places_room = omega (arith, held.places_room, c.push_reserved-in-loop-leaf.ensures.capacity);
    }

pub invariant_of-result : goal.invariant_of-result
invariant_of-result c =
    record { inverse = rw (c.loop-leaf.invariant.order, c.loop-leaf.invariant.places) (inverse_start c.loop-leaf.leaf) }
