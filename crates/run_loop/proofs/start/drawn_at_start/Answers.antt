use Rattle.model_leaves.specs.Models.{tree_of}
use Rattle.model_tree.specs.Stands.{group_of}
use Rattle.run_loop.proofs.Groups.{shown_from}
use Rattle.run_loop.proofs.start.drawn_at_start.Goals as goal

pub returns : goal.returns
returns c = λ settings.
    shown_from (tree_of c.args.model.now settings) c.args.asked.now.frames c.in-Some.frames c.args.group c.in-Some-group.group (group_of c.group.result.now) c.in_ok-drawn.drawn c.in-Some.is c.in-Some-group.is
    (c.requires.found settings) (c.group.ensures settings) c.in_ok-drawn.ensures
