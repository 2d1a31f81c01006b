use Rattle.std.proofs.Common.{[], List, map}
use Rattle.std.specs.Prelude.{if◌then◌else◌}
use Rattle.std.specs.List.{filter, flat_map}
use Rattle.model_text.specs.Keys.{of_atomic}
use Rattle.model_text.specs.Walk.{is_atomic}
use Rattle.model_walk.specs.declared.item.Item.{Item}
use Rattle.model_walk.specs.Shown.{item_of}
use Rattle.model_keys.proofs.Parts.{element_step, of_passing}
use Rattle.model_keys.proofs.again.of_atomics.Goals as goal

pub loop-item-preserved : goal.loop-item-preserved
loop-item-preserved c =
    let of = of_atomic c.args.sections.now in
    element_step (λ (is : List Item). flat_map of (filter is_atomic (map item_of is))) (λ (i : Item). if is_atomic (item_of i) then of (item_of i) else [])
    (λ i is. of_passing of is_atomic (item_of i) (map item_of is)) c.args.items.now c.loop-item.item-index _ _ _ _ c.loop-item-test.true
    c.in_ok-of_item.ensures c.least-first.ensures c.loop-item.invariant
