use Rattle.std.proofs.Common.{◌≡◌, ◌++◌, map, drop}
use Rattle.text_forms.specs.Held.{x_at, out_at}
use Rattle.sparse_cycle.specs.Feed.{values_of_leaf}
use Rattle.cycle_steps.specs.Untimed.{y_records}
use Rattle.cycle_steps.specs.Routed.{fed_to, out_to}
use Rattle.cycle_steps.specs.Growing.{Grown}
use Rattle.cycle_steps.proofs.feed.append_run.Given as goal

abbrev pub invariant-loop-r : goal.invariant-loop-r
invariant-loop-r l = record {
  x : l.fn.x.items ++ map (x_at l.t) (fed_to l.to (values_of_leaf (y_records l.rest) l.leaf)) ≡ l.x.items ++ map (x_at l.t) (fed_to l.to (values_of_leaf (y_records (drop l.r-index l.rest)) l.leaf));
  out : l.fn.out.items ++ map (out_at l.t) (out_to l.to (values_of_leaf (y_records l.rest) l.leaf)) ≡ l.out.items ++ map (out_at l.t) (out_to l.to (values_of_leaf (y_records (drop l.r-index l.rest)) l.leaf));
  x_grows : Grown l.fn.x.items l.x.items;
  out_grows : Grown l.fn.out.items l.out.items;
}
