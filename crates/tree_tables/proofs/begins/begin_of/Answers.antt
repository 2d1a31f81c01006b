use Rattle.std.proofs.Common.{◌∙◌, sym, ap}
use Rattle.std.proofs.lemmas.Result.{IfOk-weaker}
use Rattle.tree_tables.specs.declared.begins.Inside.{Inside}
use Rattle.tree_tables.specs.Begins.{begin_in}
use Rattle.tree_tables.proofs.begins.begin_of.Goals as goal

pub returns-in-Children : goal.returns-in-Children
returns-in-Children c =
    IfOk-weaker c.begin_among_children.result _ _
    (λ b h settings. h settings ∙ ap (λ (x : Inside). begin_in x settings c.args.numbers.now c.args.ins.now c.args.from.now) (sym c.in-Children.is))
    c.begin_among_children.ensures

pub returns-in-Cells : goal.returns-in-Cells
returns-in-Cells c =
    IfOk-weaker c.begin_among_cells.result _ _
    (λ b h settings. h ∙ ap (λ (x : Inside). begin_in x settings c.args.numbers.now c.args.ins.now c.args.from.now) (sym c.in-Cells.is))
    c.begin_among_cells.ensures
