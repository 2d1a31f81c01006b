use Rattle.std.proofs.Common.{ap}
use Rattle.std.proofs.lemmas.Result.{IfOk-weaker}
use Rattle.model_leaves.specs.Models.{tree_of}
use Rattle.asked_words.specs.Shown.{source_of, asked_of}
use Rattle.run_loop.proofs.Ended.{made_told}
use Rattle.run_loop.proofs.ending.done_line.Goals as goal

pub returns : goal.returns
returns c =
    IfOk-weaker c.made_line.result _ _ (λ line is settings cycles has.
    made_told (asked_of c.args.asked.now) (tree_of c.args.model.now settings) cycles c.args.going.now line.items c.in-Made.size c.leaves.result c.in-Some.counted (ap source_of c.in-Made.is) c.in-Some.is (c.leaves.ensures settings) has is) c.made_line.ensures
