use Rattle.std.proofs.Common.{◌≡◌, ◌++◌, map, drop}
use Rattle.run_model.specs.Run.{port_records}
use Rattle.text_forms.specs.Held.{x_at}
use Rattle.tree_mail.proofs.records.record_taken.Given as goal

abbrev pub invariant-loop-taken : goal.invariant-loop-taken
invariant-loop-taken l =
    l.x.items ++ map (x_at l.t) (port_records (l.leaf, drop l.taken-index l.bag))
    ≡ l.initial.x.items ++ map (x_at l.t) (port_records (l.leaf, l.bag))
