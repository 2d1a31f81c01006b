use Rattle.std.proofs.Common.{ap}
use Rattle.std.proofs.lemmas.Result.{on_ok_weaker}
use Rattle.sparse_cycle.specs.Sparse.{leaf_of}
use Rattle.served_tree.specs.Service.{output}
use Rattle.tree_messages.specs.Changes.{leaf_gives}
use Rattle.tree_mail.proofs.Putting.{put-one}
use Rattle.tree_messages.proofs.collect.ask_leaf.Goals as goal

pub returns-clause-puts : goal.returns-clause-puts
returns-clause-puts g c =
    on_ok_weaker c.put.result
    (λ is. put-one c.args.mail.now.waiting c.put.new.self.waiting _ (output c.args.processor (leaf_gives c.args.t (leaf_of c.args.leaves.now.states c.args.leaf))) is (ap (output c.args.processor) c.in_ok-given.ensures.given))
    c.put.ensures.waiting
