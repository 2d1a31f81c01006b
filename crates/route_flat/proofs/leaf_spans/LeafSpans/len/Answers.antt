use Rattle.std.proofs.Common.{length, ap, arith}
use Rattle.route_flat.proofs.LeafSpans.{spans_long}
use Rattle.route_flat.proofs.leaf_spans.LeafSpans.len.Goals as goal

pub returns : goal.returns
returns c =
    let s = c.self.inside in
    omega (arith, c.len.ensures, s.kept.ok.0, spans_long s.kept.items s.shared s.rest, ap length c.self.view_is)
