use Rattle.std.proofs.Common.{◌≡◌, ◌+◌, ◌<◌, List, take, length, map, sym, ap, ◌∙◌, subst, arith}
use Rattle.std.proofs.lemmas.List.{take_all}
use Rattle.std.proofs.lemmas.Result.{on_ok_weaker}
use Rattle.model_tree.specs.declared.component.Component.{Component}
use Rattle.model_tree.specs.Tree.{leaf_count}
use Rattle.model_tree.specs.Stands.{part_of}
use Rattle.served_tree.specs.Places.{ContainsFrom}
use Rattle.served_tree.specs.Rows.{Ref}
use Rattle.tree_tables.specs.Stations.{row_of}
use Rattle.tree_tables.specs.Children.{leaves_of, numbers_of, processors_of}
use Rattle.tree_tables.specs.Walk.{PutsBehind, Takes, part_stations, all_stations, child_rows}
use Rattle.tree_tables.proofs.Listed.{leaves-Coupled, leaves-more, stands-child}
use Rattle.tree_tables.proofs.Put.{puts-none, puts-child, stands-next, puts-coupled}
use Rattle.tree_tables.proofs.tables.+put.Goals as goal

pub put-returns-in-Coupled-clause-takes : goal.put-returns-in-Coupled-clause-takes
put-returns-in-Coupled-clause-takes t c =
    on_ok_weaker c.put_coupled.result (subst (λ (x : Component). Takes x c.args.parent (map row_of c.args.ins.items) c.args.table.now c.put_coupled.new.table) (sym c.in-Coupled.is)) c.put_coupled.ensures.takes

pub put-returns-in-Coupled-clause-leaves : goal.put-returns-in-Coupled-clause-leaves
put-returns-in-Coupled-clause-leaves t c =
    on_ok_weaker c.put_coupled.result (λ h settings. h settings ∙ ap (λ (x : Component). c.args.table.now.leaves + leaf_count (part_of x settings)) (sym c.in-Coupled.is)) c.put_coupled.ensures.leaves

pub put-returns-in-Cells-clause-takes : goal.put-returns-in-Cells-clause-takes
put-returns-in-Cells-clause-takes t c =
    on_ok_weaker c.put_group.result (subst (λ (x : Component). Takes x c.args.parent (map row_of c.args.ins.items) c.args.table.now c.put_group.new.table) (sym c.in-Cells.is)) c.put_group.ensures.takes

pub put-returns-in-Cells-clause-leaves : goal.put-returns-in-Cells-clause-leaves
put-returns-in-Cells-clause-leaves t c =
    on_ok_weaker c.put_group.result (λ h settings. h settings ∙ ap (λ (x : Component). c.args.table.now.leaves + leaf_count (part_of x settings)) (sym c.in-Cells.is)) c.put_group.ensures.leaves

pub put-returns-in-Atomic-clause-takes : goal.put-returns-in-Atomic-clause-takes
put-returns-in-Atomic-clause-takes t c =
    on_ok_weaker c.leaf.result (λ h settings ps stands.
    subst (λ (x : Component). PutsBehind c.args.table.now c.leaf.new.self (part_stations ps (part_of x settings) (length c.args.table.now.entries.items) c.args.parent c.args.table.now.leaves (map row_of c.args.ins.items))) (sym c.in-Atomic.is) h)
    c.leaf.ensures.entries

pub put-returns-in-Atomic-clause-leaves : goal.put-returns-in-Atomic-clause-leaves
put-returns-in-Atomic-clause-leaves t c =
    on_ok_weaker c.leaf.result (λ h settings. h ∙ ap (λ (x : Component). c.args.table.now.leaves + leaf_count (part_of x settings)) (sym c.in-Atomic.is)) c.leaf.ensures.leaves

pub put_coupled-returns-clause-takes : goal.put_coupled-returns-clause-takes
put_coupled-returns-clause-takes t c =
    on_ok_weaker c.put_all.result (λ h settings ps stands.
    let top = c.args.coupled.now in
    let cs = top.children.items in
    let old = c.args.table.now in
    let mid = c.component.new.self in
    let new = c.put_all.new.table in
    let wiring = c.in_ok-wiring.wiring in
    let is = c.in_ok-wiring.ensures in
    let links = wiring.links in
    let number : c.in_ok-number.number ≡ length old.entries.items = c.in_ok-number.ensures in
    puts-coupled top settings ps c.args.parent (map row_of c.args.ins.items) (map row_of wiring.outs.items) old mid new wiring.children.items links stands
    (is.children settings ∙ ap (λ n. numbers_of cs settings (n + 1)) number) (is.links settings) is.outs
    c.in_ok-component.ensures.entries c.component.ensures.leaves
    (subst (λ k. ContainsFrom ps (length mid.entries.items) (processors_of cs settings (length mid.entries.items) k mid.leaves) → PutsBehind mid new (all_stations ps cs settings (length mid.entries.items) k mid.leaves (child_rows links))) number
    (subst (λ (xs : List Component). ContainsFrom ps (length mid.entries.items) (processors_of xs settings (length mid.entries.items) c.in_ok-number.number mid.leaves) → PutsBehind mid new (all_stations ps xs settings (length mid.entries.items) c.in_ok-number.number mid.leaves (child_rows links))) c.deref.ensures.value
    (h settings ps))))
    c.put_all.ensures.takes

pub put_coupled-returns-clause-leaves : goal.put_coupled-returns-clause-leaves
put_coupled-returns-clause-leaves t c =
    on_ok_weaker c.put_all.result (λ h settings.
    h settings
    ∙ ap (λ k. k + leaves_of c.deref.result.now settings) c.component.ensures.leaves
    ∙ ap (λ (xs : List Component). c.args.table.now.leaves + leaves_of xs settings) c.deref.ensures.value
    ∙ ap (λ k. c.args.table.now.leaves + k) (sym (leaves-Coupled c.args.coupled.now settings)))
    c.put_all.ensures.leaves

pub put_all-loop-child-init : goal.put_all-loop-child-init
put_all-loop-child-init t c =
    record {
      takes = λ settings ps stands. puts-none c.args.table.now;
      leaves = λ settings. omega arith;
    }

pub put_all-loop-child-preserved : goal.put_all-loop-child-preserved
put_all-loop-child-preserved t c =
    let cs = c.args.children.now in
    let i = c.loop-child.child-index in
    let x = c.child-item.result in
    let within : i < length cs = c.loop-child-test.true in
    let inv = c.loop-child.invariant in
    let old = c.args.table.now in
    let mid = c.loop-child.table in
    record {
      takes = λ settings ps stands.
          let before = inv.takes settings ps stands in
          let there = stands-next ps old mid (take i cs) settings c.args.parent (child_rows c.args.links.now) before in
          let here = stands-child ps cs i x settings (length old.entries.items) c.args.parent old.leaves (length mid.entries.items) mid.leaves within c.child-item.is there (inv.leaves settings) stands in
          puts-child ps old mid c.put.new.table cs i x settings c.args.parent (child_rows c.args.links.now) within c.child-item.is (inv.leaves settings) before
          (subst (λ (rows : List (List Ref)). PutsBehind mid c.put.new.table (part_stations ps (part_of x settings) (length mid.entries.items) c.args.parent mid.leaves rows)) (c.in_ok-ins.ensures settings mid.leaves)
          (c.in_ok-put.ensures.takes settings ps here));
      leaves = λ settings.
          let more = leaves-more cs i x settings within c.child-item.is in
          let before = inv.leaves settings in
          let one = c.in_ok-put.ensures.leaves settings in
          omega (arith, more, before, one);
    }

pub put_all-returns-clause-takes : goal.put_all-returns-clause-takes
put_all-returns-clause-takes t c = λ settings ps stands.
    subst (λ (xs : List Component). PutsBehind c.args.table.now c.loop-child.table (all_stations ps xs settings (length c.args.table.now.entries.items) c.args.parent c.args.table.now.leaves (child_rows c.args.links.now)))
    (take_all c.loop-child.child-index c.args.children.now c.loop-child-test.false) (c.loop-child.invariant.takes settings ps stands)

pub put_all-returns-clause-leaves : goal.put_all-returns-clause-leaves
put_all-returns-clause-leaves t c = λ settings.
    c.loop-child.invariant.leaves settings
    ∙ ap (λ (xs : List Component). c.args.table.now.leaves + leaves_of xs settings) (take_all c.loop-child.child-index c.args.children.now c.loop-child-test.false)
