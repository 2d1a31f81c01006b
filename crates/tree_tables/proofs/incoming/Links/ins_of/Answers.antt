use Rattle.std.proofs.Common.{◌∙◌, sym, ap, List}
use Rattle.std.proofs.lemmas.Result.{IfOk-weaker}
use Rattle.model_tree.specs.declared.component.Component.{Component}
use Rattle.model_tree.specs.Tree.{Word}
use Rattle.model_tree.specs.Pull.{is_child}
use Rattle.model_tree.specs.Stands.{part_of}
use Rattle.served_tree.specs.Places.{node_of}
use Rattle.tree_tables.specs.Incoming.{rows_to}
use Rattle.tree_tables.specs.Walk.{child_rows}
use Rattle.tree_tables.proofs.incoming.Links.ins_of.Goals as goal

pub returns-in-Coupled : goal.returns-in-Coupled
returns-in-Coupled c =
    IfOk-weaker c.ins.result _ _
    (λ rows h settings first.
    h ∙ ap (λ (ports : List Word). rows_to c.args.self.now.inward.items c.args.self.now.arrivals (λ port. is_child port c.in-Coupled.c.name) ports) c.deref.ensures.value
    ∙ ap (λ (x : Component). child_rows c.args.self.now (node_of (part_of x settings) first)) (sym c.in-Coupled.is))
    c.ins.ensures

pub returns-in-Cells : goal.returns-in-Cells
returns-in-Cells c =
    IfOk-weaker c.ins-in-Cells.result _ _
    (λ rows h settings first.
    h ∙ ap (λ (ports : List Word). rows_to c.args.self.now.inward.items c.args.self.now.arrivals (λ port. is_child port c.in-Cells.g.name) ports) c.deref-in-Cells.ensures.value
    ∙ ap (λ (x : Component). child_rows c.args.self.now (node_of (part_of x settings) first)) (sym c.in-Cells.is))
    c.ins-in-Cells.ensures

pub returns-in_ok-ports-in-Atomic : goal.returns-in_ok-ports-in-Atomic
returns-in_ok-ports-in-Atomic c =
    IfOk-weaker c.ins-in-Atomic.result _ _
    (λ rows h settings first.
    h ∙ ap (λ (ports : List Word). rows_to c.args.self.now.inward.items c.args.self.now.arrivals (λ port. is_child port c.in-Atomic.a.name) ports) (c.deref-in-Atomic.ensures.value ∙ c.in_ok-ports-in-Atomic.ensures)
    ∙ ap (λ (x : Component). child_rows c.args.self.now (node_of (part_of x settings) first)) (sym c.in-Atomic.is))
    c.ins-in-Atomic.ensures
