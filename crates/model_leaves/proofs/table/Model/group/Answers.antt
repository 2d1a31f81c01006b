use Rattle.std.proofs.Common.{◌≡◌, ◌<◌, Some, List, length, sym, ap, ◌∙◌, subst, arith}
use Rattle.std.specs.Prelude.{slice_get}
use Rattle.model_tree.specs.declared.component.Component.{Component}
use Rattle.model_tree.specs.Tree.{Group, groups}
use Rattle.model_leaves.specs.Models.{tree_of}
use Rattle.model_leaves.specs.Leaves.{no_settings}
use Rattle.model_tree.specs.Stands.{group_of}
use Rattle.model_leaves.specs.Nth.{groups_of_all}
use Rattle.model_leaves.proofs.Rows.{groups-Coupled}
use Rattle.model_leaves.proofs.table.Model.group.Goals as goal

pub unreachable-requires : goal.unreachable-requires
unreachable-requires c =
    let same : groups_of_all c.deref.result.now no_settings ≡ groups (tree_of c.args.self.now no_settings) =
    ap (λ (cs : List Component). groups_of_all cs no_settings) c.deref.ensures.value ∙ sym (groups-Coupled c.args.self.now.top no_settings) in
    let within : c.args.number < length (groups_of_all c.deref.result.now no_settings) = subst (λ (gs : List Group). c.args.number < length gs) (sym same) c.requires in
    omega (arith, within, c.in-Past.ensures no_settings)

pub returns : goal.returns
returns c = λ settings.
    let same : groups_of_all c.deref.result.now settings ≡ groups (tree_of c.args.self.now settings) =
    ap (λ (cs : List Component). groups_of_all cs settings) c.deref.ensures.value ∙ sym (groups-Coupled c.args.self.now.top settings) in
    subst (λ (gs : List Group). slice_get gs c.args.number ≡ Some (group_of c.in-Group.group.now)) same (c.in-Group.ensures settings)
