use Rattle.std.proofs.Common.{rules, ◌≡◌, ◌<◌, ◌+◌, ◌++◌, [], ◌∷◌, map, take, length, sym, ap, ◌∙◌}
use Rattle.std.proofs.lemmas.List.{map_more, map_push, take_all}
use Rattle.model_tree.specs.Tree.{Word}
use Rattle.port_net.specs.Arriving.{nodes_to}
use Rattle.port_net.specs.Outside.{is_end_at}
use Rattle.tree_tables.specs.Stations.{row_of}
use Rattle.tree_tables.specs.Incoming.{begins_at, rows_to}
use Rattle.tree_tables.proofs.incoming.rows.Goals as goal

pub loop-port-init : goal.loop-port-init
loop-port-init c = ap (map row_of) c.new-all.ensures.items

pub loop-port-preserved : goal.loop-port-preserved
loop-port-preserved c =
    let within : c.loop-port.port-index < length c.args.ports.now = c.loop-port-test.true in
    let pushed : c.push.new.self.items ≡ c.loop-port.all.items ++ c.in_ok-row.row ∷ [] = search rules in
    let at = λ (p : Word). begins_at c.args.begins.now (nodes_to c.args.arrivals.now (is_end_at c.args.at.now p)) in
    let took : map at (take (c.loop-port.port-index + 1) c.args.ports.now) ≡ map at (take c.loop-port.port-index c.args.ports.now) ++ at c.port-item.result ∷ [] =
    map_more at c.args.ports.now c.loop-port.port-index c.port-item.result within ∙ ap (λ (x : Word). map at (take c.loop-port.port-index c.args.ports.now) ++ at x ∷ []) (sym c.port-item.is) in
    let here : row_of c.in_ok-row.row ≡ at c.port-item.result = c.in_ok-row.ensures ∙ ap (begins_at c.args.begins.now) (c.deref.ensures.value ∙ c.in_ok-links.ensures) in
    ap (map row_of) pushed
    ∙ map_push row_of c.loop-port.all.items c.in_ok-row.row
    ∙ (λ i. c.loop-port.invariant i ++ here i ∷ [])
    ∙ sym took

pub returns : goal.returns
returns c =
    c.loop-port.invariant
    ∙ ap (rows_to c.args.begins.now c.args.arrivals.now (is_end_at c.args.at.now)) (take_all c.loop-port.port-index c.args.ports.now c.loop-port-test.false)
