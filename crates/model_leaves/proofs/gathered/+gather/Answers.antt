use Rattle.std.proofs.Common.{◌≡◌, ◌++◌, List, sym, ap, ◌∙◌, append-nil}
use Rattle.std.proofs.lemmas.Result.{on_ok_weaker}
use Rattle.model_tree.specs.declared.component.Component.{Component}
use Rattle.model_tree.specs.Tree.{Group, groups}
use Rattle.model_tree.specs.Stands.{part_of}
use Rattle.model_leaves.specs.Nth.{groups_of_all}
use Rattle.model_leaves.proofs.Rows.{groups-Coupled}
use Rattle.model_leaves.specs.Grouped.{groups_shown}
use Rattle.model_leaves.proofs.Grouping.{all-groups, more-groups}
use Rattle.model_leaves.proofs.gathered.+gather.Goals as goal

pub gather-returns-in-Coupled : goal.gather-returns-in-Coupled
gather-returns-in-Coupled t c =
    on_ok_weaker c.gather_all.result (λ h settings.
    let same : groups_of_all c.deref.result.now settings ≡ groups (part_of c.args.component.now settings) =
    ap (λ (cs : List Component). groups_of_all cs settings) c.deref.ensures.value ∙ sym (groups-Coupled c.in-Coupled.c settings) ∙ ap (λ (x : Component). groups (part_of x settings)) (sym c.in-Coupled.is) in
    h settings ∙ ap (λ (gs : List Group). groups_shown c.args.found.now.items ++ gs) same) c.gather_all.ensures

pub gather-returns-in-Cells : goal.gather-returns-in-Cells
gather-returns-in-Cells t c =
    on_ok_weaker c.add_group.result (λ h settings.
    h ∙ ap (λ (x : Component). groups_shown c.args.found.now.items ++ groups (part_of x settings)) (sym c.in-Cells.is)) c.add_group.ensures

pub gather-returns-in-Atomic : goal.gather-returns-in-Atomic
gather-returns-in-Atomic t c = λ settings.
    sym (append-nil (groups_shown c.args.found.now.items))
    ∙ ap (λ (x : Component). groups_shown c.args.found.now.items ++ groups (part_of x settings)) (sym c.in-Atomic.is)

pub gather_all-loop-child-init : goal.gather_all-loop-child-init
gather_all-loop-child-init t c = λ settings. sym (append-nil (groups_shown c.args.found.now.items))

pub gather_all-loop-child-preserved : goal.gather_all-loop-child-preserved
gather_all-loop-child-preserved t c = λ settings.
    more-groups (λ (x : Component). groups (part_of x settings)) (groups_shown c.args.found.now.items)
    (groups_shown c.loop-child.found.items) (groups_shown c.gather.new.found.items)
    c.args.children.now c.loop-child.child-index c.child-item.result c.loop-child-test.true c.child-item.is
    (c.loop-child.invariant settings) (c.in_ok-gather.ensures settings)

pub gather_all-returns : goal.gather_all-returns
gather_all-returns t c = λ settings.
    all-groups (λ (x : Component). groups (part_of x settings)) (groups_shown c.args.found.now.items)
    (groups_shown c.loop-child.found.items) c.args.children.now c.loop-child.child-index c.loop-child-test.false
    (c.loop-child.invariant settings)
