use Rattle.std.proofs.Common.{[], List, ◌∙◌, subst}
use Rattle.std.proofs.lemmas.Result.{IfOk-weaker}
use Rattle.model_tree.specs.declared.component.Component.{Component}
use Rattle.model_tree.specs.declared.link.Link.{Link}
use Rattle.model_tree.specs.Tree.{Word}
use Rattle.tree_tables.specs.Begins.{coupled_begin}
use Rattle.tree_tables.specs.Incoming.{AreLinks}
use Rattle.tree_tables.proofs.wiring.links_of_coupled.Goals as goal

pub returns : goal.returns
returns c =
    IfOk-weaker c.new-2.result _ _
    (λ ls h settings.
    let numbers = c.args.numbers.now in
    let kids = c.in_ok-children.ensures ∙ c.deref.ensures.value in
    subst (λ (cs : List Component). AreLinks ls (coupled_begin cs settings numbers []) (coupled_begin cs settings numbers c.args.coupled.now.ins.items) c.args.coupled.now.links.items) kids
    (subst (λ (ins : List Word). AreLinks ls (coupled_begin c.in_ok-children.children.list.now settings numbers []) (coupled_begin c.in_ok-children.children.list.now settings numbers ins) c.args.coupled.now.links.items) c.deref-3.ensures.value
    (subst (λ (links : List Link). AreLinks ls (coupled_begin c.in_ok-children.children.list.now settings numbers []) (coupled_begin c.in_ok-children.children.list.now settings numbers c.deref-3.result.now) links) c.deref-2.ensures.value (h settings))))
    c.new-2.ensures
