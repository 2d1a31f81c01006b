use Rattle.std.proofs.Common.{ℕ, List, map, subst}
use Rattle.std.proofs.lemmas.Result.{IfOk-weaker, on_ok_weaker}
use Rattle.model_tree.specs.declared.component.Component.TheVariants as in_tree
use Rattle.model_tree.specs.Tree.{Word}
use Rattle.model_tree.specs.Pull as P
use Rattle.model_tree.specs.Stands.{part_of}
use Rattle.port_net.specs.Shown.{AllGive, Join, leaf_list}
use Rattle.port_net.specs.Arriving.{nodes_to}
use Rattle.port_net.proofs.Stood.{extends-on}
use Rattle.port_net.proofs.making.outputs_of_top.Goals as goal

pub returns-clause-extends : goal.returns-clause-extends
returns-clause-extends c =
    on_ok_weaker c.row.result (λ more. extends-on c.args.nodes.now.items c.outputs_of_coupled.new.nodes.items c.row.new.nodes.items c.in_ok-out.ensures.extends more) c.row.ensures.extends

pub returns-clause-gives : goal.returns-clause-gives
returns-clause-gives c =
    IfOk-weaker c.row.result _ _
    (λ ks h ins settings.
    let top = c.args.top.now in
    let mid = c.outputs_of_coupled.new.nodes.items in
    let lists = λ (port : Word). P.given_out (part_of (in_tree.Coupled top) settings) 0 leaf_list port in
    subst (λ (ns : List Word). AllGive ins c.row.new.nodes.items ks.items (map lists ns)) c.deref.ensures.value
    (h ins lists
    (λ port.
    subst (λ (n : ℕ). Join ins mid (nodes_to c.in_ok-out.out.links (P.is_own port)) (P.given_out (part_of (in_tree.Coupled top) settings) n leaf_list port)) c.in_ok-out.ensures.ok.first
    (c.in_ok-out.ensures.ok.gives ins settings port))))
    c.row.ensures.gives
