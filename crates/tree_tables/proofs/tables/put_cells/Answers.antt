use Rattle.std.proofs.Common.{rules, ◌<◌, ◌≤◌, length, arith}
use Rattle.std.proofs.lemmas.List.{take_all}
use Rattle.tree_tables.proofs.Put.{puts-none, puts-cell}
use Rattle.tree_tables.proofs.tables.put_cells.Goals as goal

pub loop-i-init : goal.loop-i-init
loop-i-init c = record { cells = puts-none c.args.table.now; leaves = omega arith }

pub loop-i-preserved : goal.loop-i-preserved
loop-i-preserved c =
    let inv = c.loop-i.invariant in
    let within : c.loop-i.i < length c.args.names.now = c.loop-i-test.true in
    record {
      cells =
          puts-cell (λ v. v.items) c.args.table.now c.loop-i.table c.leaf.new.self c.args.links.now c.args.parent c.args.names.now c.loop-i.i c.in_ok-cell.cell c.index-names-i.result _ within c.index-names-i.is c.in_ok-cell.ensures.number inv.leaves inv.cells c.deref.result.now c.deref.ensures.value c.in_ok-ins.ensures c.in_ok-leaf.ensures.entries;
      leaves = let one = c.in_ok-leaf.ensures.leaves in let before = inv.leaves in omega (arith, one, before);
    }

pub returns-clause-cells : goal.returns-clause-cells
returns-clause-cells c =
    let past : length c.args.names.now ≤ c.loop-i.i = omega arith in
    rw (take_all c.loop-i.i c.args.names.now past) at c.loop-i.invariant.cells

pub returns-clause-leaves : goal.returns-clause-leaves
returns-clause-leaves c = search (rules, arith)
