use Rattle.std.proofs.Common.{◌≡◌, ◌++◌, drop}
use Rattle.run_model.specs.Cycle.{at_port}
use Rattle.served_tree.specs.Service.{at_number}
use Rattle.tree_mail.proofs.lists.put_at.Given as goal

abbrev pub invariant-loop-there : goal.invariant-loop-there
invariant-loop-there l =
    l.into.items ++ at_port (l.port.0, at_number (drop l.there-index l.bag) l.number)
    ≡ l.initial.into.items ++ at_port (l.port.0, at_number l.bag l.number)
