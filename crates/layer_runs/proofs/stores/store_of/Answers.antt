use Rattle.model_tree.specs.Stands.{group_of}
use Rattle.model_leaves.specs.Models.{tree_of}
use Rattle.model_leaves.specs.Boxes.{settings_of_stock}
use Rattle.run_leaves.proofs.SoundParts.{sound-parts, group-sound}
use Rattle.layer_runs.proofs.stores.store_of.Goals as goal

pub new-requires-2 : goal.new-requires-2
new-requires-2 c =
    let t = tree_of c.args.model.now (settings_of_stock c.args.stock.now) in
    group-sound t (sound-parts t c.requires.ready.sound).parts 0 (group_of c.group-group.result.now) (c.group-group.ensures (settings_of_stock c.args.stock.now))
