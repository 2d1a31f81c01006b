use Rattle.std.proofs.Common.{◌-◌, length}
use Rattle.model_leaves.proofs.Rowed.{rows_back}
use Rattle.model_leaves.proofs.leaf_rows.Rows.of.Goals as goal

pub returns : goal.returns
returns c =
    let rows = c.args.rows.now in
    let own = length rows - c.shared_at_end.result in
    rw (c.in_ok-heads.ensures, c.in_ok-spans.ensures) (rows_back rows own c.last_span-rest.result c.shared_at_end.ensures.same)
