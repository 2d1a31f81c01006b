use Rattle.std.proofs.Common.{◌∙◌, ap}
use Rattle.std.proofs.lemmas.Result.{IfOk-weaker}
use Rattle.port_net.specs.Outside.{is_end_at}
use Rattle.tree_tables.specs.Incoming.{rows_to}
use Rattle.tree_tables.proofs.incoming.Links.ins.Goals as goal

pub returns : goal.returns
returns c =
    IfOk-weaker c.rows.result _ _
    (λ rows h. h ∙ ap (λ begins. rows_to begins c.args.self.now.arrivals (is_end_at c.args.at.now) c.args.ports.now) c.deref.ensures.value)
    c.rows.ensures
