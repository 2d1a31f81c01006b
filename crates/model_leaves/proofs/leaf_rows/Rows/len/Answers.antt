use Rattle.std.proofs.Common.{length, sym, ap, ◌∙◌}
use Rattle.model_leaves.proofs.Rowed.{rows_long}
use Rattle.model_leaves.proofs.leaf_rows.Rows.len.Goals as goal

pub returns : goal.returns
returns c =
    let r = c.self.inside in
    c.len.ensures ∙ r.heads.ok.0 ∙ sym (rows_long r.heads.items r.spans.items r.rest) ∙ ap length c.self.view_is
