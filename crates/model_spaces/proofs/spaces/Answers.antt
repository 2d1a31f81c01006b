use Rattle.std.proofs.Common.{ap, ◌∙◌, sym, subst}
use Rattle.std.specs.List.{filter, AllByRecursion}
use Rattle.model_text.specs.Walk.{groups, is_group}
use Rattle.model_walk.specs.Met.{sections_at}
use Rattle.model_spaces.specs.Right.{CanBeRead}
use Rattle.model_spaces.proofs.Whole.{each_right}
use Rattle.model_spaces.proofs.spaces.Goals as goal

pub read_groups-requires : goal.read_groups-requires
read_groups-requires c =
    let ss = c.args.sections.now in
    subst (AllByRecursion CanBeRead) (sym (ap sections_at c.deref.ensures.value ∙ c.in_ok-found.ensures ∙ ap (filter is_group) c.requires.walk.sections))
    (each_right (groups ss) (c.spaces_can_be_held.ensures ss c.requires.keys c.requires.cells) (c.accepted_groups_have_right_sizes.ensures ss c.requires.keys) (c.accepted_groups_have_right_names.ensures ss c.requires.keys))
