use Rattle.std.proofs.Common.{rules, ◌≡◌, ◌<◌, ◌++◌, List, length, sym, ap, ◌∙◌, subst}
use Rattle.model_tree.specs.Tree.{Word, groups}
use Rattle.model_leaves.specs.LeafTexts.{name_at}
use Rattle.model_leaves.specs.Leaves.{no_settings}
use Rattle.model_leaves.specs.Models.{tree_of}
use Rattle.model_leaves.proofs.Read.{told-outs, leaf-there}
use Rattle.model_leaves.proofs.table.Model.out_port_text.Goals as goal

pub out_name-name-requires : goal.out_name-name-requires
out_name-name-requires c =
    let there = leaf-there c.args.self.now c.args.leaf c.requires.leaf in
    let outs = told-outs no_settings (groups (tree_of c.args.self.now no_settings)) c.found-found.result.part.now.at c.found-found.result.part.now.name c.found-found.result.cell c.found-found.result.ins.now there.0 (c.found-found.ensures no_settings there.0 there.1) in
    subst (λ (xs : List Word). c.args.port.0 < length xs) (sym outs) (c.requires.port no_settings there.0 there.1)

pub returns-clause-ok : goal.returns-clause-ok
returns-clause-ok c = λ settings l e.
    let outs = told-outs settings (groups (tree_of c.args.self.now settings)) c.found-found.result.part.now.at c.found-found.result.part.now.name c.found-found.result.cell c.found-found.result.ins.now l (c.found-found.ensures settings l e) in
    let items : c.extend_from_slice.new.self.items ≡ c.args.into.now.items ++ c.out_name-name.result.now = search rules in
    items ∙ ap (λ (text : Word). c.args.into.now.items ++ text) (c.out_name-name.ensures ∙ ap (λ (xs : List Word). name_at xs c.args.port.0) outs)
