use Rattle.std.proofs.Common.{◌≡◌, ◌++◌, map, drop}
use Rattle.text_forms.specs.Held.{out_at}
use Rattle.served_tree.specs.KeptCycle.{out_record}
use Rattle.tree_mail.proofs.records.record_out.Given as goal

abbrev pub invariant-loop-given : goal.invariant-loop-given
invariant-loop-given l =
    l.out.items ++ map (out_at l.t) (map out_record (drop l.given-index l.bag))
    ≡ l.initial.out.items ++ map (out_at l.t) (map out_record l.bag)
