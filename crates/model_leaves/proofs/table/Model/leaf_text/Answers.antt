use Rattle.std.proofs.Common.{◌++◌, ap, ◌∙◌}
use Rattle.std.proofs.lemmas.Result.{on_ok_weaker}
use Rattle.model_tree.specs.Tree.{Word, groups}
use Rattle.model_leaves.specs.Leaves.{no_settings}
use Rattle.model_leaves.specs.Models.{tree_of}
use Rattle.model_leaves.proofs.Read.{told-text, told-inside, leaf-there}
use Rattle.model_leaves.proofs.table.Model.leaf_text.Goals as goal

pub put_leaf-done-requires : goal.put_leaf-done-requires
put_leaf-done-requires c =
    let there = leaf-there c.args.self.now c.args.leaf c.requires in
    told-inside no_settings (groups (tree_of c.args.self.now no_settings)) c.found-found.result.part.now.at c.found-found.result.part.now.name c.found-found.result.cell c.found-found.result.ins.now there.0 (c.found-found.ensures no_settings there.0 there.1)

pub returns-else-is_err-clause-ok : goal.returns-else-is_err-clause-ok
returns-else-is_err-clause-ok c =
    on_ok_weaker c.put_leaf-done.result
    (λ h settings l e. h ∙ ap (λ (text : Word). c.args.into.now.items ++ text) (told-text settings (groups (tree_of c.args.self.now settings)) c.found-found.result.part.now.at c.found-found.result.part.now.name c.found-found.result.cell c.found-found.result.ins.now l (c.found-found.ensures settings l e)))
    c.put_leaf-done.ensures.ok
