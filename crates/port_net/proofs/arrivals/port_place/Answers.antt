use Rattle.std.proofs.Common.{sym, ap, ◌∙◌}
use Rattle.std.proofs.lemmas.Result.{IfOk-weaker}
use Rattle.model_tree.specs.declared.link.End.TheVariants as end
use Rattle.model_tree.specs.Tree.{Word}
use Rattle.port_net.specs.declared.ports.At.{At}
use Rattle.port_net.specs.Outside.{end_at}
use Rattle.port_net.proofs.arrivals.port_place.Goals as goal

pub returns-in-Own : goal.returns-in-Own
returns-in-Own c = ap end.Own c.in_ok-port.ensures ∙ sym (ap (λ (x : At). end_at x c.args.port.now) c.in-Own.is)

pub returns-in-Child : goal.returns-in-Child
returns-in-Child c =
    IfOk-weaker c.child_place.result _ _
    (λ place h.
    h ∙ ap (λ (w : Word). end.Child w c.in-Child.child.now) c.in_ok-port.ensures
    ∙ sym (ap (λ (x : At). end_at x c.args.port.now) c.in-Child.is))
    c.child_place.ensures

pub returns-in-Cell : goal.returns-in-Cell
returns-in-Cell c = ap (λ (w : Word). end.Cell w c.in-Cell.cell) c.in_ok-port.ensures ∙ sym (ap (λ (x : At). end_at x c.args.port.now) c.in-Cell.is)
