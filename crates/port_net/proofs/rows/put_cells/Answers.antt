use Rattle.std.proofs.Common.{◌≤◌, [], ◌∷◌, List, map, length, arith, subst}
use Rattle.std.proofs.lemmas.List.{take_all}
use Rattle.model_tree.specs.Tree.{Word}
use Rattle.model_tree.specs.Pull.{is_cell}
use Rattle.port_net.specs.Arriving.{nodes_to}
use Rattle.port_net.specs.Rows.{Grows}
use Rattle.port_net.proofs.Stood.{extends-on, join-kept}
use Rattle.port_net.proofs.Rowed.{grows-cell}
use Rattle.port_net.proofs.rows.put_cells.Goals as goal

pub loop-i-preserved : goal.loop-i-preserved
loop-i-preserved c =
    let inv = c.loop-i.invariant in
    record {
      extends = extends-on c.args.net.now.nodes.items c.loop-i.net.nodes.items c.put_leaf.new.net.nodes.items inv.extends c.in_ok-put_leaf.ensures.extends;
      takes = λ ins lists join.
          let cell = c.in_ok-cell.cell in
          grows-cell (λ v. v.items) ins c.args.net.now c.loop-i.net c.put_leaf.new.net c.args.names.now c.loop-i.i c.in_ok-cell.cell c.index-names-i.result lists c.loop-i-test.true c.index-names-i.is c.in_ok-cell.ensures.number (inv.takes ins lists join)
          (subst (λ (ns : List Word). Grows ins c.loop-i.net c.put_leaf.new.net (map (lists c.in_ok-cell.cell) ns ∷ [])) c.deref.ensures.value
          (c.in_ok-put_leaf.ensures.takes ins (lists c.in_ok-cell.cell)
          (λ port. join-kept ins c.args.net.now.nodes.items c.loop-i.net.nodes.items (nodes_to c.args.links.now (is_cell port c.in_ok-cell.cell)) (lists c.in_ok-cell.cell port) inv.extends (join c.in_ok-cell.cell port))));
    }

pub returns-clause-takes : goal.returns-clause-takes
returns-clause-takes c = λ ins lists join.
    let past : length c.args.names.now ≤ c.loop-i.i = omega arith in
    rw (take_all c.loop-i.i c.args.names.now past) at (c.loop-i.invariant.takes ins lists join)
