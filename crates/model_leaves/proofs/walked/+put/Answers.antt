use Rattle.std.proofs.Common.{rules, ◌≡◌, ◌+◌, ◌++◌, ℕ, List, [], ◌∷◌, take, sym, ap, arith, ◌∙◌}
use Rattle.std.proofs.lemmas.Result.{on_ok_weaker}
use Rattle.std.proofs.lemmas.List.{take_more}
use Rattle.model_tree.specs.declared.component.Component.{Component}
use Rattle.model_leaves.specs.Table.{seats_from, groups_in}
use Rattle.model_leaves.specs.Growing.{seats_of_all, groups_in_all}
use Rattle.model_leaves.proofs.Rows.{seats_from-Coupled, groups_in-Coupled}
use Rattle.model_leaves.proofs.Shown.{grown-on, grown-as, grown-none, seats-more, groups-more}
use Rattle.model_leaves.proofs.walked.+put.Goals as goal

pub put-returns-in-Coupled-clause-ok : goal.put-returns-in-Coupled-clause-ok
put-returns-in-Coupled-clause-ok t c =
    let n = c.args.table.now.groups in
    let same : seats_of_all c.deref.result.now c.args.table.now.groups ≡ seats_from c.args.component.now c.args.table.now.groups =
    ap (λ (cs : List Component). seats_of_all cs c.args.table.now.groups) c.deref.ensures.value ∙ sym (seats_from-Coupled c.in-Coupled.c c.args.table.now.groups) ∙ ap (λ (x : Component). seats_from x c.args.table.now.groups) (sym c.in-Coupled.is) in
    on_ok_weaker c.put_all.result (λ h. grown-as c.args.table.now c.put_all.new.table _ _ same h) c.put_all.ensures.ok

pub put-returns-in-Coupled-clause-groups : goal.put-returns-in-Coupled-clause-groups
put-returns-in-Coupled-clause-groups t c =
    let same : groups_in_all c.deref.result.now ≡ groups_in c.args.component.now =
    ap groups_in_all c.deref.ensures.value ∙ sym (groups_in-Coupled c.in-Coupled.c) ∙ ap groups_in (sym c.in-Coupled.is) in
    on_ok_weaker c.put_all.result (λ h. h ∙ ap (λ (n : ℕ). c.args.table.now.groups + n) same) c.put_all.ensures.groups

pub put-returns-in-Cells-clause-ok : goal.put-returns-in-Cells-clause-ok
put-returns-in-Cells-clause-ok t c =
    on_ok_weaker c.group.result (λ h. grown-as c.args.table.now c.group.new.self _ _ (ap (λ (x : Component). seats_from x c.args.table.now.groups) (sym c.in-Cells.is)) h) c.group.ensures.ok

pub put_all-loop-child-init : goal.put_all-loop-child-init
put_all-loop-child-init t c = record { ok = grown-none c.args.table.now; groups = omega arith }

pub put_all-loop-child-preserved : goal.put_all-loop-child-preserved
put_all-loop-child-preserved t c =
    let took : take (c.loop-child.child-index + 1) c.args.children.now ≡ take c.loop-child.child-index c.args.children.now ++ c.child-item.result ∷ [] =
    take_more c.args.children.now c.loop-child.child-index c.child-item.result (search rules) ∙ ap (λ (x : Component). take c.loop-child.child-index c.args.children.now ++ x ∷ []) (sym c.child-item.is) in
    let more : seats_of_all (take c.loop-child.child-index c.args.children.now) c.args.table.now.groups ++ seats_from c.child-item.result c.loop-child.table.groups ≡ seats_of_all (take (c.loop-child.child-index + 1) c.args.children.now) c.args.table.now.groups =
    ap (λ (n : ℕ). seats_of_all (take c.loop-child.child-index c.args.children.now) c.args.table.now.groups ++ seats_from c.child-item.result n) c.loop-child.invariant.groups
    ∙ sym (seats-more (take c.loop-child.child-index c.args.children.now) c.child-item.result c.args.table.now.groups)
    ∙ ap (λ (cs : List Component). seats_of_all cs c.args.table.now.groups) (sym took) in
    let count : groups_in_all (take (c.loop-child.child-index + 1) c.args.children.now) ≡ groups_in_all (take c.loop-child.child-index c.args.children.now) + groups_in c.child-item.result =
    ap groups_in_all took ∙ groups-more (take c.loop-child.child-index c.args.children.now) c.child-item.result in
    record {
      ok = grown-as c.args.table.now c.put.new.table _ _ more
          (grown-on c.args.table.now c.loop-child.table c.put.new.table (seats_of_all (take c.loop-child.child-index c.args.children.now) c.args.table.now.groups) (seats_from c.child-item.result c.loop-child.table.groups) c.loop-child.invariant.ok c.in_ok-put.ensures.ok);
      groups = omega (arith, c.in_ok-put.ensures.groups, c.loop-child.invariant.groups, count);
    }
