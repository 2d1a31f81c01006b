use Rattle.std.proofs.Common.{rules, ◌≡◌, ◌<◌, ◌++◌, List, length, sym, ap, ◌∙◌, subst}
use Rattle.model_tree.specs.Tree.{Word, groups}
use Rattle.model_leaves.specs.LeafTexts.{in_ports, name_at}
use Rattle.model_leaves.specs.Leaves.{no_settings}
use Rattle.model_leaves.specs.Models.{tree_of}
use Rattle.model_leaves.proofs.Read.{told-ins, leaf-there, name-read}
use Rattle.model_leaves.proofs.table.Model.port_text.Goals as goal

pub bounds-found-port : goal.bounds-found-port
bounds-found-port c =
    let there = leaf-there c.args.self.now c.args.leaf c.requires.leaf in
    let ins = told-ins no_settings (groups (tree_of c.args.self.now no_settings)) c.found.result.part.now.at c.found.result.part.now.name c.found.result.cell c.found.result.ins.now there.0 (c.found.ensures no_settings there.0 there.1) in
    subst (λ (xs : List Word). c.args.port.0 < length xs) (sym ins) (c.requires.port no_settings there.0 there.1)

pub returns-clause-ok : goal.returns-clause-ok
returns-clause-ok c = λ settings l e.
    let ins = told-ins settings (groups (tree_of c.args.self.now settings)) c.found.result.part.now.at c.found.result.part.now.name c.found.result.cell c.found.result.ins.now l (c.found.ensures settings l e) in
    let items : c.extend_from_slice.new.self.items ≡ c.args.into.now.items ++ c.as_bytes.result.now = search rules in
    let within : c.args.port.0 < length c.found.result.ins.now = search rules in
    let name : c.as_bytes.result.now ≡ name_at (in_ports l) c.args.port.0 =
    c.as_bytes.ensures.bytes ∙ sym c.index-found-port.is ∙ name-read c.found.result.ins.now c.args.port.0 c.index-found-port.result within c.index-found-port.is ∙ ap (λ (xs : List Word). name_at xs c.args.port.0) ins in
    items ∙ ap (λ (xs : Word). c.args.into.now.items ++ xs) name
