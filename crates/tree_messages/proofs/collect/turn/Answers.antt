use Rattle.std.proofs.Common.{false, ap}
use Rattle.std.proofs.lemmas.Result.{on_ok_weaker}
use Rattle.served_tree.specs.Service.{transition}
use Rattle.tree_mail.proofs.Putting.{put-one}
use Rattle.tree_messages.proofs.collect.turn.Goals as goal

pub returns-clause-puts : goal.returns-clause-puts
returns-clause-puts c =
    on_ok_weaker c.put.result
    (λ is. put-one c.args.mail.now.waiting c.put.new.self.waiting _ (transition 0 c.args.inputs.now false) is (ap (λ bag. transition 0 bag false) c.in_ok-bag.ensures.items))
    c.put.ensures.waiting
