use Rattle.std.proofs.Common.{◌≡◌, ◌++◌, map, drop}
use Rattle.text_forms.specs.Held.{x_at, out_at}
use Rattle.cycle_steps.specs.Untimed.{y_records}
use Rattle.cycle_steps.specs.Routed.{values_at, fed_in, out_in}
use Rattle.cycle_steps.specs.Growing.{Grown}
use Rattle.cycle_steps.proofs.feed.feed_all.Given as goal

abbrev pub invariant-loop-k : goal.invariant-loop-k
invariant-loop-k g l = record {
  x : l.fn.x.items ++ map (x_at l.t) (fed_in (values_at (y_records l.y) l.inputs) (g.R.Routing.paths l.routes) l.numbers) ≡ l.x.items ++ map (x_at l.t) (fed_in (values_at (y_records l.y) l.inputs) (g.R.Routing.paths l.routes) (drop l.k-index l.numbers));
  out : l.fn.out.items ++ map (out_at l.t) (out_in (values_at (y_records l.y) l.inputs) (g.R.Routing.paths l.routes) l.numbers) ≡ l.out.items ++ map (out_at l.t) (out_in (values_at (y_records l.y) l.inputs) (g.R.Routing.paths l.routes) (drop l.k-index l.numbers));
  x_grows : Grown l.fn.x.items l.x.items;
  out_grows : Grown l.fn.out.items l.out.items;
}
