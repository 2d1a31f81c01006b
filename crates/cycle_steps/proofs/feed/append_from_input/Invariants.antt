use Rattle.std.proofs.Common.{◌≡◌, ◌++◌, map, drop}
use Rattle.text_forms.specs.Held.{x_at, out_at}
use Rattle.cycle_steps.specs.Routed.{values_of_input, fed_to, out_to}
use Rattle.cycle_steps.specs.Growing.{Grown}
use Rattle.cycle_steps.proofs.feed.append_from_input.Given as goal

abbrev pub invariant-loop-e : goal.invariant-loop-e
invariant-loop-e l = record {
  x : l.fn.x.items ++ map (x_at l.t) (fed_to l.to (values_of_input l.inputs l.input)) ≡ l.x.items ++ map (x_at l.t) (fed_to l.to (values_of_input (drop l.e-index l.inputs) l.input));
  out : l.fn.out.items ++ map (out_at l.t) (out_to l.to (values_of_input l.inputs l.input)) ≡ l.out.items ++ map (out_at l.t) (out_to l.to (values_of_input (drop l.e-index l.inputs) l.input));
  x_grows : Grown l.fn.x.items l.x.items;
  out_grows : Grown l.fn.out.items l.out.items;
}
