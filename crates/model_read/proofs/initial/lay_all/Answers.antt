use Rattle.std.proofs.Common.{◌≡◌, ◌+◌, ◌++◌, ◌∷◌, [], Ok, Err, IfSome, Vec, Global, length, map, take, drop, sym, ap, ◌∙◌, subst, rules}
use Rattle.std.specs.List.{flat_map}
use Rattle.std.proofs.lemmas.List.{take_all}
use Rattle.ma_lines.specs.InCode.{section_of}
use Rattle.cell_grid.specs.declared.initial.Initial.{Initial}
use Rattle.model_text.specs.InitialFiles.{files_of_group}
use Rattle.model_walk.specs.Placed.{values_before_files}
use Rattle.model_read.specs.declared.group_space.GroupSpace.{GroupSpace}
use Rattle.cell_grid.specs.Space.{cell_count}
use Rattle.model_text.specs.Spaces.{space_of}
use Rattle.model_text.specs.Trees.{initial_of}
use Rattle.model_read.specs.Laid.{Adds, IsRight}
use Rattle.model_read.specs.Reading.{ReadsFiles}
use Rattle.model_read.specs.Spaces.{sections_in}
use Rattle.model_read.proofs.Readings.{told, reads_none, reads_on, reads_no_further, reads_other}
use Rattle.model_read.proofs.GroupFiles.{right_at, section_more, section_next, files_more, files_split, sizes_more, values_more}
use Rattle.model_read.proofs.initial.lay_all.Goals as goal

pub lay_next-requires-clause-left : goal.lay_next-requires-clause-left
lay_next-requires-clause-left g c =
    let gs = c.args.groups.now in
    let i = c.loop-group.group-index in
    let d = c.group-item.result in
    let rest = map values_before_files (sections_in (drop (i + 1) gs)) in (
      rest,
      c.loop-group.invariant.left ∙ ap (map values_before_files) (section_next gs i d c.loop-group-test.true)
          ∙ ap (λ (x : GroupSpace). values_before_files (section_of x.section.now) ∷ rest) (sym c.group-item.is),
    )

pub returns-in_err-lay_next-clause-read : goal.returns-in_err-lay_next-clause-read
returns-in_err-lay_next-clause-read g c =
    let gs = c.args.groups.now in
    let i = c.loop-group.group-index in
    let d = c.group-item.result in
    let w = c.in_err-lay_next.field-0.0 in
    let old = g.R.Room.outside c.args.room.now in
    let mid = g.R.Room.outside c.loop-group.room in
    let new = g.R.Room.outside c.lay_next.new.room in
    let done = flat_map files_of_group (sections_in (take i gs)) in
    let rest = flat_map files_of_group (sections_in (drop (i + 1) gs)) in
    let is : c.from_residual.result ≡ Err w = search rules in
    let here = reads_on tt (Err w) done (files_of_group (section_of d.section.now)) old mid new c.loop-group.invariant.read c.in_err-lay_next.ensures.read in
    let all = reads_no_further {U = Vec Initial Global} w (done ++ files_of_group (section_of d.section.now)) rest old new here in
    subst (λ r. ReadsFiles (flat_map files_of_group (sections_in gs)) r old new) (sym is)
    (subst (λ fs. ReadsFiles {T = Vec Initial Global} fs (Err w) old new)
    (ap (λ (x : GroupSpace). (done ++ files_of_group (section_of x.section.now)) ++ rest) c.group-item.is ∙ sym (files_split gs i d c.loop-group-test.true)) all)

pub loop-group-preserved : goal.loop-group-preserved
loop-group-preserved g c =
    let gs = c.args.groups.now in
    let i = c.loop-group.group-index in
    let d = c.group-item.result in
    let s = section_of d.section.now in
    let within = c.loop-group-test.true in
    let done = sections_in (take i gs) in
    let old = g.R.Room.outside c.args.room.now in
    let mid = g.R.Room.outside c.loop-group.room in
    let new = g.R.Room.outside c.lay_next.new.room in
    let more : sections_in (take (i + 1) gs) ≡ done ++ s ∷ [] =
    section_more gs i d within ∙ ap (λ (x : GroupSpace). done ++ section_of x.section.now ∷ []) (sym c.group-item.is) in
    let here = reads_on tt (Ok tt) (flat_map files_of_group done) (files_of_group s) old mid new c.loop-group.invariant.read (reads_other c.in_ok-lay_next.field-0 tt (files_of_group s) mid new c.in_ok-lay_next.ensures.read) in
    record {
      left = c.in_ok-lay_next.ensures.left ∙ ap (drop 1) c.loop-group.invariant.left ∙ ap (λ ss. drop 1 (map values_before_files ss)) (section_next gs i d within);
      read = subst (λ fs. ReadsFiles {T = Unit {0}} fs (Ok tt) old new) (sym (ap (flat_map files_of_group) more ∙ files_more done s)) here;
      values = subst (λ ss. IfSome old.files (λ files. c.lay_next.new.laid.items ≡ map (initial_of files) ss)) (sym more)
          (values_more old.files s done c.loop-group.laid.items c.lay_next.new.laid.items c.loop-group.invariant.values
          (subst (λ f. Adds f s c.loop-group.laid.items c.lay_next.new.laid.items) c.loop-group.invariant.read.only.files c.in_ok-lay_next.ensures.laid));
      sizes = subst (λ ss. map (λ v. length v) c.lay_next.new.laid.items ≡ map (λ x. cell_count (space_of x)) ss) (sym more)
          (sizes_more (g.R.Room.outside c.loop-group.room).files s done c.loop-group.laid.items c.lay_next.new.laid.items c.loop-group.invariant.sizes c.in_ok-lay_next.ensures.laid);
    }

pub lay_next-requires-clause-group : goal.lay_next-requires-clause-group
lay_next-requires-clause-group g c =
    subst IsRight (sym c.group-item.is) (right_at c.args.groups.now c.loop-group.group-index c.group-item.result c.loop-group-test.true c.requires.groups)

pub loop-group-init : goal.loop-group-init
loop-group-init g c =
    let old = g.R.Room.outside c.args.room.now in
    let none = c.new-laid.ensures.items in
    record {
      left = c.from-left.ensures.0 ∙ c.requires.before;
      read = reads_none tt old;
      values = told old.files (λ files. c.new-laid.result.items ≡ []) (λ files. none);
      sizes = ap (map (λ v. length v)) none;
    }

pub returns : goal.returns
returns g c =
    let old = g.R.Room.outside c.args.room.now in
    let new = g.R.Room.outside c.loop-group.room in
    let laid = c.loop-group.laid in
    let done = c.loop-group.invariant in
    let all = take_all c.loop-group.group-index c.args.groups.now c.loop-group-test.false in
    record {
      read = subst (λ gs. ReadsFiles {T = Vec Initial Global} (flat_map files_of_group (sections_in gs)) (Ok laid) old new) all
          (reads_other {U = Vec Initial Global} tt laid (flat_map files_of_group (sections_in (take c.loop-group.group-index c.args.groups.now))) old new done.read);
      values = subst (λ gs. IfSome old.files (λ files. laid.items ≡ map (initial_of files) (sections_in gs))) all done.values;
      sizes = subst (λ gs. map (λ v. length v) laid.items ≡ map (λ s. cell_count (space_of s)) (sections_in gs)) all done.sizes;
    }
