use Rattle.std.proofs.Common.{[], ◌∷◌, ℕ, List, map, refl, sym, ◌∙◌, subst}
use Rattle.std.proofs.lemmas.Result.{on_ok_weaker}
use Rattle.port_net.specs.Shown.{AllGive}
use Rattle.port_net.specs.Rows.{Grows}
use Rattle.model_tree.specs.Tree.{Word}
use Rattle.port_net.proofs.Rowed.{grows-on, no_names, nodes-put}
use Rattle.port_net.proofs.rows.put_leaf.Goals as goal

pub returns-clause-takes : goal.returns-clause-takes
returns-clause-takes c =
    on_ok_weaker c.put-2.result
    (λ h ins lists are.
    grows-on ins c.args.net.now _ c.put-2.new.self [] (map lists c.args.names.now ∷ []) (nodes-put c.args.net.now _ ins c.in_ok-ks.ensures.extends refl refl)
    (h ins (map lists c.args.names.now) (subst (λ (ks : List ℕ). AllGive ins c.row.new.nodes.items ks (map lists c.args.names.now)) (sym c.deref.ensures.value) (c.in_ok-ks.ensures.gives ins lists are))))
    c.put-2.ensures.ok

-- a leaf without ports has no nodes
pub returns-then-is_empty-clause-takes : goal.returns-then-is_empty-clause-takes
returns-then-is_empty-clause-takes c =
    let none = no_names c.args.names.now (sym c.is_empty.ensures ∙ c.if-is_empty.true) in
    on_ok_weaker c.put.result
    (λ h ins lists are. subst (λ (ns : List Word). Grows ins c.args.net.now c.put.new.self (map lists ns ∷ [])) (sym none) (h ins [] (λ more. refl)))
    c.put.ensures.ok
