use Rattle.std.proofs.Common.{rules, ◌≡◌, ◌++◌, ℕ, List, [], ◌∷◌, map, sym, ap, subst, append-nil}
use Rattle.std.proofs.lemmas.List.{take_all}
use Rattle.route_flat.specs.Lists.{AreLists, span_at}
use Rattle.route_flat.proofs.Spans.{lists-more}
use Rattle.route_flat.proofs.lists.lists.Goals as goal

pub loop-port-init : goal.loop-port-init
loop-port-init c =
    record {
      grown = sym (append-nil c.args.paths.now.items);
      shown = λ more. ap (map (span_at (c.args.paths.now.items ++ more))) c.new-spans.ensures.items;
    }

pub loop-port-preserved : goal.loop-port-preserved
loop-port-preserved c =
    let pushed : c.push.new.self.items ≡ c.loop-port.spans.items ++ c.in_ok-span.span ∷ [] = search rules in
    lists-more c.args.nodes.now c.args.ports.now c.loop-port.port-index c.args.paths.now.items c.loop-port.paths.items c.list.new.paths.items c.loop-port.spans.items c.push.new.self.items c.in_ok-span.span
    c.loop-port-test.true c.loop-port.invariant c.in_ok-span.ensures pushed

pub returns : goal.returns
returns c =
    subst (λ (ports : List ℕ). AreLists c.args.nodes.now ports c.args.paths.now.items c.loop-port.paths.items c.loop-port.spans.items)
    (take_all c.loop-port.port-index c.args.ports.now c.loop-port-test.false) c.loop-port.invariant
