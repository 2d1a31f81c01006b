use Rattle.std.proofs.Common.{◌∙◌, sym, ap, List}
use Rattle.std.specs.List.{position}
use Rattle.std.specs.Str.{bytes_eq}
use Rattle.std.proofs.lemmas.Result.{IfOk-weaker}
use Rattle.model_tree.specs.declared.component.Component.{Component}
use Rattle.model_tree.specs.Tree.{Word}
use Rattle.model_tree.specs.Stands.{part_of}
use Rattle.served_tree.specs.Processors.{out_number}
use Rattle.served_tree.specs.Places.{node_of}
use Rattle.tree_tables.proofs.begins.port_number.Goals as goal

pub returns-in-Coupled : goal.returns-in-Coupled
returns-in-Coupled c =
    IfOk-weaker c.place_of.result _ _
    (λ n h settings first.
    h ∙ ap (λ (names : List Word). position (bytes_eq c.args.port.now) names) c.deref.ensures.value
    ∙ ap (λ (x : Component). out_number (node_of (part_of x settings) first) c.args.port.now) (sym c.in-Coupled.is))
    c.place_of.ensures

pub returns-in-Cells : goal.returns-in-Cells
returns-in-Cells c =
    IfOk-weaker c.place_of-in-Cells.result _ _
    (λ n h settings first.
    h ∙ ap (λ (names : List Word). position (bytes_eq c.args.port.now) names) c.deref-in-Cells.ensures.value
    ∙ ap (λ (x : Component). out_number (node_of (part_of x settings) first) c.args.port.now) (sym c.in-Cells.is))
    c.place_of-in-Cells.ensures

pub returns-in-Atomic : goal.returns-in-Atomic
returns-in-Atomic c = λ settings first.
    ap (λ (x : Component). out_number (node_of (part_of x settings) first) c.args.port.now) (sym c.in-Atomic.is)
