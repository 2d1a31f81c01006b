use Rattle.std.proofs.Common.{◌≡◌, ◌≤◌, ◌-◌, drop, length, replicate}
use Rattle.route_flat.proofs.leaf_spans.shared_at_end.Given as goal

abbrev pub invariant-ends : goal.invariant-ends
invariant-ends l = record {
  within : l.first ≤ length l.spans;
  same : drop l.first l.spans ≡ replicate (length l.spans - l.first) l.rest;
}

abbrev pub decreases-ends : goal.decreases-ends
decreases-ends l = l.first
