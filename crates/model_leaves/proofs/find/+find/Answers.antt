use Rattle.std.proofs.Common.{◌≡◌, List, sym, ap, ◌∙◌, subst}
use Rattle.model_tree.specs.declared.component.Component.{Component}
use Rattle.model_tree.specs.Tree.{Group, groups}
use Rattle.model_tree.specs.Stands.{group_of, part_of}
use Rattle.model_leaves.specs.Nth.{NthIs, groups_of_all}
use Rattle.model_leaves.proofs.Rows.{groups-Coupled}
use Rattle.model_leaves.proofs.Nths.{nth-among}
use Rattle.model_leaves.proofs.find.+find.Goals as goal

pub nth_group-returns-in-Coupled : goal.nth_group-returns-in-Coupled
nth_group-returns-in-Coupled t c = λ settings.
    let same : groups_of_all c.deref.result.now settings ≡ groups (part_of c.args.component.now settings) =
    ap (λ (cs : List Component). groups_of_all cs settings) c.deref.ensures.value ∙ sym (groups-Coupled c.in-Coupled.c settings) ∙ ap (λ (x : Component). groups (part_of x settings)) (sym c.in-Coupled.is) in
    subst (λ (gs : List Group). NthIs c.nth_group_of_all.result gs c.args.number) same (c.nth_group_of_all.ensures settings)

pub nth_group_of_all-returns-in-Group : goal.nth_group_of_all-returns-in-Group
nth_group_of_all-returns-in-Group t c = λ settings.
    nth-among c.args.children.now c.loop-child.child-index c.child-item.result settings c.args.number c.loop-child.left (group_of c.in-Group.group.now) c.loop-child-test.true c.child-item.is (c.loop-child.invariant settings) (c.in-Group.ensures settings)
