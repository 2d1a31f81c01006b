use Rattle.std.proofs.Common.{◌∙◌, sym, ap}
use Rattle.std.proofs.lemmas.Result.{IfOk-weaker}
use Rattle.model_tree.specs.declared.link.End.{End}
use Rattle.tree_tables.specs.Begins.{coupled_begin}
use Rattle.tree_tables.proofs.begins.begin_among_children.Goals as goal

pub returns-in-Own : goal.returns-in-Own
returns-in-Own c =
    IfOk-weaker c.own_begin.result _ _
    (λ b h settings. h ∙ ap (λ (e : End). coupled_begin c.args.children.now.list.now settings c.args.numbers.now c.args.ins.now e) (sym c.in-Own.is))
    c.own_begin.ensures

pub returns-in-Child : goal.returns-in-Child
returns-in-Child c =
    IfOk-weaker c.child_begin.result _ _
    (λ b h settings. h settings ∙ ap (λ (e : End). coupled_begin c.args.children.now.list.now settings c.args.numbers.now c.args.ins.now e) (sym c.in-Child.is))
    c.child_begin.ensures

pub returns-in-Cell : goal.returns-in-Cell
returns-in-Cell c = λ settings.
    ap (λ (e : End). coupled_begin c.args.children.now.list.now settings c.args.numbers.now c.args.ins.now e) (sym c.in-Cell.is)
