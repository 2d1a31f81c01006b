use Rattle.std.proofs.Common.{◌≡◌, ◌++◌, map, drop}
use Rattle.run_model.specs.Run.{port_records}
use Rattle.text_forms.specs.Held.{y_at}
use Rattle.sparse_cycle.specs.Collect.{y_of, n_of}
use Rattle.cycle_steps.proofs.collect.append_emitted.Given as goal

abbrev pub invariant-loop-given : goal.invariant-loop-given
invariant-loop-given l = record {
  y : l.fn.y.items ++ map (y_at l.t) (y_of (port_records (l.leaf, l.bag))) ≡ l.y.items ++ map (y_at l.t) (y_of (port_records (l.leaf, drop l.given-index l.bag)));
  n : l.fn.n.items ++ map (y_at l.t) (n_of (port_records (l.leaf, l.bag))) ≡ l.n.items ++ map (y_at l.t) (n_of (port_records (l.leaf, drop l.given-index l.bag)));
}
