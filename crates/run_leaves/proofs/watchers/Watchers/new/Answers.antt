use Rattle.std.proofs.Common.{ap, ◌∙◌}
use Rattle.model_leaves.specs.Models.{tree_of}
use Rattle.model_leaves.specs.Leaves.{no_settings}
use Rattle.model_leaves.specs.Grouped.{groups_shown}
use Rattle.run_leaves.proofs.WhoWatches.{is-watching, stand-in-blocks}
use Rattle.run_leaves.proofs.watchers.Watchers.new.Goals as goal

pub seat_all-requires-clause-groups : goal.seat_all-requires-clause-groups
seat_all-requires-clause-groups c = λ settings. ap groups_shown c.deref.ensures.value ∙ c.in_ok-groups.ensures settings

pub invariant_of-result : goal.invariant_of-result
invariant_of-result c =
    let made = c.in_ok-seat_all.ensures in
    let blocks = c.seat_all.new.blocks.items in
    (made.few, stand-in-blocks (tree_of c.args.model.now no_settings) c.seat_all.new.seats blocks (made.long no_settings) (made.seated no_settings))

pub returns : goal.returns
returns c = λ settings.
    let made = c.in_ok-seat_all.ensures in
    let blocks = c.seat_all.new.blocks.items in
    is-watching (tree_of c.args.model.now settings) c.seat_all.new.seats blocks (made.long settings) (made.seated settings)
