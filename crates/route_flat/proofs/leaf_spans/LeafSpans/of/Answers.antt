use Rattle.std.proofs.Common.{◌≡◌, ◌-◌, ◌++◌, ◌∙◌, length, take, drop, replicate, ap, arith}
use Rattle.route_flat.proofs.LeafSpans.{spans_back}
use Rattle.route_flat.proofs.leaf_spans.LeafSpans.of.Goals as goal

pub overflow_sub-left : goal.overflow_sub-left
overflow_sub-left c = omega (arith, c.shared_at_end-shared.ensures.within, ap length c.deref-2.ensures.value, c.len.ensures, c.args.spans.ok.0)

pub returns : goal.returns
returns c =
    let items = c.args.spans.items in
    let n = c.shared_at_end-shared.result in
    let rest = c.last_of-rest.result in
    let long : c.len.result ≡ length items = omega (arith, c.len.ensures, c.args.spans.ok.0) in
    let same : drop (length items - n) items ≡ replicate n rest = rw c.deref-2.ensures.value at c.shared_at_end-shared.ensures.same in
    ap (λ ks. ks ++ replicate n rest) (c.shrink_to_fit.ensures.items ∙ c.truncate.ensures.items ∙ ap (λ m. take (m - n) items) long)
    ∙ spans_back items (length items - n) n rest same
