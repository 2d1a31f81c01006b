use Rattle.std.proofs.Common.{◌<◌, length, get_or, ap, ◌∙◌, arith}
use Rattle.model_leaves.specs.Rows.{row_with}
use Rattle.model_leaves.proofs.Rowed.{rows_long, row_at}
use Rattle.model_leaves.proofs.leaf_rows.Rows.at.Goals as goal

pub index-head-requires : goal.index-head-requires
index-head-requires c =
    let r = c.self.inside in
    omega (arith, c.requires, rows_long r.heads.items r.spans.items r.rest, ap length c.self.view_is, r.heads.ok.0)

pub returns : goal.returns
returns c =
    let r = c.self.inside in
    let d = row_with c.index-head.result.now c.span_at-span.result in
    let leaf = c.args.leaf in
    let lt : leaf < length r.heads.items = omega (arith, c.requires, rows_long r.heads.items r.spans.items r.rest, ap length c.self.view_is) in
    ap (row_with c.index-head.result.now) (c.span_at-span.ensures ∙ ap (λ ss. get_or ss leaf r.rest) c.deref.ensures.value)
    ∙ row_at r.heads.items r.spans.items r.rest leaf c.index-head.result.now d lt c.index-head.ensures
    ∙ ap (λ rs. get_or rs leaf d) c.self.view_is
