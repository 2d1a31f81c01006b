use Rattle.std.proofs.Common.{◌∙◌, sym, ap}
use Rattle.std.proofs.lemmas.Result.{IfOk-weaker}
use Rattle.model_tree.specs.declared.link.End.{End}
use Rattle.served_tree.specs.Rows.{group_ref}
use Rattle.tree_tables.proofs.begins.begin_among_cells.Goals as goal

pub returns-in-Own : goal.returns-in-Own
returns-in-Own c =
    IfOk-weaker c.own_begin.result _ _
    (λ b h. h ∙ ap (λ (e : End). group_ref c.args.numbers.now c.args.ins.now e) (sym c.in-Own.is))
    c.own_begin.ensures

pub returns-in-Child : goal.returns-in-Child
returns-in-Child c =
    ap (λ (e : End). group_ref c.args.numbers.now c.args.ins.now e) (sym c.in-Child.is)

pub returns-in-Cell : goal.returns-in-Cell
returns-in-Cell c =
    c.cell_begin.ensures ∙ ap (λ (e : End). group_ref c.args.numbers.now c.args.ins.now e) (sym c.in-Cell.is)
