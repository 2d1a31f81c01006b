use Rattle.model_tree.specs.Tree.{groups}
use Rattle.model_leaves.specs.Models.{tree_of}
use Rattle.model_leaves.proofs.Read.{told-atomic, told-of-group}
use Rattle.model_leaves.proofs.table.Model.cell_at.Goals as goal

pub returns-in-Atomic : goal.returns-in-Atomic
returns-in-Atomic c = λ settings l e.
    told-atomic settings (groups (tree_of c.args.self.now settings)) c.found-found.result.part.now.at c.found-found.result.part.now.name c.found-found.result.cell c.found-found.result.ins.now l c.in-Atomic.field-0 c.in-Atomic.is (c.found-found.ensures settings l e)

pub returns-in-Cells : goal.returns-in-Cells
returns-in-Cells c = λ settings l e.
    told-of-group settings (groups (tree_of c.args.self.now settings)) c.found-found.result.part.now.at c.found-found.result.part.now.name c.found-found.result.cell c.found-found.result.ins.now l c.in-Cells.number c.in-Cells.grid c.in-Cells._ports c.in-Cells.is (c.found-found.ensures settings l e)
