use Rattle.std.proofs.Common.{◌≡◌, ◌++◌, map, drop}
use Rattle.std.specs.List.{filter}
use Rattle.run_model.specs.Run.{port_records, is_of_out}
use Rattle.text_forms.specs.Held.{y_at}
use Rattle.tree_mail.specs.Recorded.{is_further}
use Rattle.tree_mail.proofs.records.record_ports.Given as goal

abbrev pub invariant-loop-given : goal.invariant-loop-given
invariant-loop-given l =
    record {
      y : l.y.items ++ map (y_at l.t) (filter is_of_out (port_records (l.leaf, drop l.given-index l.bag)))
          ≡ l.initial.y.items ++ map (y_at l.t) (filter is_of_out (port_records (l.leaf, l.bag)));
      n : l.n.items ++ map (y_at l.t) (filter is_further (port_records (l.leaf, drop l.given-index l.bag)))
          ≡ l.initial.n.items ++ map (y_at l.t) (filter is_further (port_records (l.leaf, l.bag)));
    }
