use Rattle.std.proofs.Common.{◌≡◌, ◌-◌, get_or, arith}
use Rattle.port_net.specs.declared.span.Span.{Span}
use Rattle.route_flat.proofs.LeafSpans.{shared_before}
use Rattle.route_flat.proofs.leaf_spans.shared_at_end.Goals as goal

pub ends-preserved : goal.ends-preserved
ends-preserved c =
    let spans = c.args.spans.now in
    let first = c.ends.first in
    let held = c.ends.invariant in
    let none : Span = record { first = 0; count = 0 } in
    let here : get_or spans (first - 1) none ≡ c.args.rest = c.is_same.ensures c.if-not-is_same.false in
    record {
      within = omega (arith, held.within);
      same = shared_before spans c.args.rest first none c.ends-test.true held.within here held.same;
    }
