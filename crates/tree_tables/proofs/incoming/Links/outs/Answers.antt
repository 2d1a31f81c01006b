use Rattle.std.proofs.Common.{◌∙◌, ap}
use Rattle.std.proofs.lemmas.Result.{IfOk-weaker}
use Rattle.port_net.specs.declared.ports.At.TheVariants as at_port
use Rattle.port_net.specs.Outside.{is_end_at}
use Rattle.tree_tables.specs.Incoming.{rows_to}
use Rattle.tree_tables.proofs.incoming.Links.outs.Goals as goal

pub returns : goal.returns
returns c =
    IfOk-weaker c.rows.result _ _
    (λ rows h. h ∙ ap (λ begins. rows_to begins c.args.self.now.arrivals (is_end_at at_port.Own) c.args.ports.now) c.deref.ensures.value)
    c.rows.ensures
