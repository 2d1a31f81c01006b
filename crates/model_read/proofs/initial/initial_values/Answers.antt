use Rattle.std.proofs.Common.{◌≡◌, Vec, Global, map, length, sym, ap, ◌∙◌, subst, IfSome, IfOk}
use Rattle.std.specs.List.{flat_map, AllByRecursion}
use Rattle.ma_lines.specs.Laws.{IsPlainSection}
use Rattle.cell_grid.specs.Space.{cell_count}
use Rattle.model_text.specs.InitialFiles.{files_of_group}
use Rattle.model_text.specs.Spaces.{space_of}
use Rattle.model_text.specs.Trees.{initial_of}
use Rattle.model_text.specs.Walk.{groups}
use Rattle.model_walk.specs.Placed.{values_before_files}
use Rattle.model_read.specs.Reading.{ReadsFiles}
use Rattle.model_read.specs.Spaces.{kept_space, said_space, sections_in}
use Rattle.model_read.proofs.MetGroups.{groups_hold}
use Rattle.model_read.proofs.GroupFiles.{sections_are, groups_are_right}
use Rattle.model_read.proofs.initial.initial_values.Goals as goal

pub lay_all-requires-clause-groups : goal.lay_all-requires-clause-groups
lay_all-requires-clause-groups g c =
    let gs = c.args.groups.now in
    let ss = c.args.sections.now in
    let are = sections_are gs (groups ss) c.requires.groups in
    groups_are_right gs (c.requires.groups ∙ ap (map said_space) (sym are)) (subst (AllByRecursion IsPlainSection) (sym are) (groups_hold IsPlainSection ss c.requires.plain))

pub lay_all-requires-clause-before : goal.lay_all-requires-clause-before
lay_all-requires-clause-before g c = c.requires.before ∙ ap (map values_before_files) (sym (sections_are c.args.groups.now (groups c.args.sections.now) c.requires.groups))

pub returns-clause-read : goal.returns-clause-read
returns-clause-read g c =
    subst (λ ss. ReadsFiles (flat_map files_of_group ss) c.lay_all.result (g.R.Room.outside c.args.room.now) (g.R.Room.outside c.lay_all.new.room))
    (sections_are c.args.groups.now (groups c.args.sections.now) c.requires.groups) c.lay_all.ensures.read

pub returns-clause-values : goal.returns-clause-values
returns-clause-values g c =
    subst (λ ss. IfSome (g.R.Room.outside c.args.room.now).files (λ files. IfOk c.lay_all.result (λ values. values.items ≡ map (initial_of files) ss)))
    (sections_are c.args.groups.now (groups c.args.sections.now) c.requires.groups) c.lay_all.ensures.values

pub returns-clause-sizes : goal.returns-clause-sizes
returns-clause-sizes g c =
    subst (λ ss. IfOk c.lay_all.result (λ values. map (λ v. length v) values.items ≡ map (λ s. cell_count (space_of s)) ss))
    (sections_are c.args.groups.now (groups c.args.sections.now) c.requires.groups) c.lay_all.ensures.sizes
