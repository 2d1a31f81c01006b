use Rattle.model_tree.specs.Tree.{groups}
use Rattle.model_leaves.specs.Models.{tree_of}
use Rattle.model_leaves.proofs.Read.{told-ins}
use Rattle.model_leaves.proofs.table.Model.ports_at.Goals as goal

pub returns : goal.returns
returns c = λ settings l e.
    told-ins settings (groups (tree_of c.args.self.now settings)) c.found.result.part.now.at c.found.result.part.now.name c.found.result.cell c.found.result.ins.now l (c.found.ensures settings l e)
