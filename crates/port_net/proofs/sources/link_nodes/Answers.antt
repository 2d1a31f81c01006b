use Rattle.std.proofs.Common.{rules, ◌≡◌, ◌<◌, ◌+◌, ◌++◌, [], ◌∷◌, List, map, take, length, sym, ap, ◌∙◌, subst}
use Rattle.std.proofs.lemmas.List.{map_more, take_all}
use Rattle.std.proofs.lemmas.Result.{IfOk-from_err}
use Rattle.model_tree.specs.declared.link.Link.{Link}
use Rattle.model_tree.specs.Pull.{Source}
use Rattle.port_net.specs.Shown.{plain_sources, AllGive}
use Rattle.port_net.specs.Outside.{stands_at, brought_by}
use Rattle.port_net.proofs.Stood.{extends-none, extends-on, all-more}
use Rattle.port_net.proofs.Standing.{ports-kept, inside-kept}
use Rattle.port_net.proofs.sources.link_nodes.Goals as goal

pub loop-link-init : goal.loop-link-init
loop-link-init c =
    record {
      extends = extends-none c.args.nodes.now.items;
      gives = λ ins lists first settings own known more. ap (map (plain_sources ins (c.args.nodes.now.items ++ more))) c.new-ks.ensures.items;
    }

pub loop-link-preserved : goal.loop-link-preserved
loop-link-preserved c =
    let within : c.loop-link.link-index < length c.args.links.now = c.loop-link-test.true in
    let pushed : c.push.new.self.items ≡ c.loop-link.ks.items ++ c.in_ok-k.k ∷ [] = search rules in
    let inv = c.loop-link.invariant in
    record {
      extends = extends-on c.args.nodes.now.items c.loop-link.nodes.items c.node_of.new.nodes.items inv.extends c.in_ok-k.ensures.extends;
      gives = λ ins lists first settings own known.
          let at = λ (l : Link). stands_at c.args.inside.now settings first lists l.from in
          let took : map at (take (c.loop-link.link-index + 1) c.args.links.now) ≡ map at (take c.loop-link.link-index c.args.links.now) ++ at c.link-item.result ∷ [] =
          map_more at c.args.links.now c.loop-link.link-index c.link-item.result within ∙ ap (λ (x : Link). map at (take c.loop-link.link-index c.args.links.now) ++ at x ∷ []) (sym c.link-item.is) in
          subst (λ (xss : List (List Source)). AllGive ins c.node_of.new.nodes.items c.push.new.self.items xss) (sym took)
          (all-more ins c.loop-link.nodes.items c.node_of.new.nodes.items c.loop-link.ks.items c.push.new.self.items c.in_ok-k.k (map at (take c.loop-link.link-index c.args.links.now)) (at c.link-item.result) c.in_ok-k.ensures.extends pushed
          (inv.gives ins lists first settings own known)
          (c.in_ok-k.ensures.gives ins lists first settings (ports-kept ins c.args.nodes.now.items c.loop-link.nodes.items c.args.own.now lists inv.extends own)
          (inside-kept c.args.nodes.now.items c.loop-link.nodes.items c.args.inside.now first inv.extends known)));
    }

pub returns-clause-extends : goal.returns-clause-extends
returns-clause-extends c = c.loop-link.invariant.extends

pub returns-clause-gives : goal.returns-clause-gives
returns-clause-gives c = λ ins lists first settings own known.
    subst (λ (links : List Link). AllGive ins c.loop-link.nodes.items c.loop-link.ks.items (brought_by c.args.inside.now settings first lists links))
    (take_all c.loop-link.link-index c.args.links.now c.loop-link-test.false) (c.loop-link.invariant.gives ins lists first settings own known)

pub returns-in_err-k-clause-extends : goal.returns-in_err-k-clause-extends
returns-in_err-k-clause-extends c = IfOk-from_err c.from_residual.result _ c.from_residual.ensures.0

pub returns-in_err-k-clause-gives : goal.returns-in_err-k-clause-gives
returns-in_err-k-clause-gives c = IfOk-from_err c.from_residual.result _ c.from_residual.ensures.0
