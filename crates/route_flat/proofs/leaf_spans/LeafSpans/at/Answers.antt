use Rattle.std.proofs.Common.{◌<◌, ◌+◌, ◌∙◌, length, get_or, ap, arith}
use Rattle.route_flat.proofs.LeafSpans.{span_is, spans_long}
use Rattle.route_flat.proofs.leaf_spans.LeafSpans.at.Goals as goal

pub returns : goal.returns
returns c =
    let s = c.self.inside in
    let leaf = c.args.leaf in
    let lt : leaf < length s.kept.items + s.shared = omega (arith, c.requires, spans_long s.kept.items s.shared s.rest, ap length c.self.view_is) in
    c.span_at.ensures ∙ ap (λ xs. get_or xs leaf s.rest) c.deref.ensures.value ∙ span_is s.kept.items s.shared s.rest leaf c.span_at.result lt
    ∙ ap (λ xs. get_or xs leaf c.span_at.result) c.self.view_is
