use Rattle.std.proofs.Common.{rules, ◌≡◌, ◌<◌, ◌+◌, ◌++◌, [], ◌∷◌, List, map, take, length, sym, ap, ◌∙◌, subst}
use Rattle.std.proofs.lemmas.List.{map_more, take_all}
use Rattle.std.proofs.lemmas.Result.{IfOk-from_err}
use Rattle.model_tree.specs.Tree.{Word}
use Rattle.model_tree.specs.Pull.{Source}
use Rattle.port_net.specs.Shown.{plain_sources, AllGive}
use Rattle.port_net.proofs.Stood.{extends-none, extends-on, all-more}
use Rattle.port_net.proofs.Standing.{ports-kept}
use Rattle.port_net.proofs.sources.row.Goals as goal

pub loop-name-init : goal.loop-name-init
loop-name-init c =
    record {
      extends = extends-none c.args.nodes.now.items;
      gives = λ ins lists are more. ap (map (plain_sources ins (c.args.nodes.now.items ++ more))) c.new-ks.ensures.items;
    }

pub loop-name-preserved : goal.loop-name-preserved
loop-name-preserved c =
    let within : c.loop-name.name-index < length c.args.names.now = c.loop-name-test.true in
    let pushed : c.push.new.self.items ≡ c.loop-name.ks.items ++ c.in_ok-k.k ∷ [] = search rules in
    let inv = c.loop-name.invariant in
    record {
      extends = extends-on c.args.nodes.now.items c.loop-name.nodes.items c.node_at.new.nodes.items inv.extends c.in_ok-k.ensures.extends;
      gives = λ ins lists are.
          let took : map lists (take (c.loop-name.name-index + 1) c.args.names.now) ≡ map lists (take c.loop-name.name-index c.args.names.now) ++ lists c.name-item.result ∷ [] =
          map_more lists c.args.names.now c.loop-name.name-index c.name-item.result within ∙ ap (λ (x : Word). map lists (take c.loop-name.name-index c.args.names.now) ++ lists x ∷ []) (sym c.name-item.is) in
          subst (λ (xss : List (List Source)). AllGive ins c.node_at.new.nodes.items c.push.new.self.items xss) (sym took)
          (all-more ins c.loop-name.nodes.items c.node_at.new.nodes.items c.loop-name.ks.items c.push.new.self.items c.in_ok-k.k (map lists (take c.loop-name.name-index c.args.names.now)) (lists c.name-item.result) c.in_ok-k.ensures.extends pushed
          (inv.gives ins lists are) (c.in_ok-k.ensures.gives ins lists (ports-kept ins c.args.nodes.now.items c.loop-name.nodes.items c.args.ports.now lists inv.extends are)));
    }

pub returns-clause-extends : goal.returns-clause-extends
returns-clause-extends c = c.loop-name.invariant.extends

pub returns-clause-gives : goal.returns-clause-gives
returns-clause-gives c = λ ins lists are.
    subst (λ (names : List Word). AllGive ins c.loop-name.nodes.items c.loop-name.ks.items (map lists names))
    (take_all c.loop-name.name-index c.args.names.now c.loop-name-test.false) (c.loop-name.invariant.gives ins lists are)

pub returns-in_err-k-clause-extends : goal.returns-in_err-k-clause-extends
returns-in_err-k-clause-extends c = IfOk-from_err c.from_residual.result _ c.from_residual.ensures.0

pub returns-in_err-k-clause-gives : goal.returns-in_err-k-clause-gives
returns-in_err-k-clause-gives c = IfOk-from_err c.from_residual.result _ c.from_residual.ensures.0
