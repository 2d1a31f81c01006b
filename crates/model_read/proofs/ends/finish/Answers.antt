use Rattle.std.proofs.Common.{◌≡◌, Vec, Global, Err, sym, ap, ◌∙◌, subst, rules}
use Rattle.cell_grid.specs.declared.initial.Initial.{Initial}
use Rattle.model_read.specs.declared.refusal.ModelRefusal.TheVariants.{Memory}
use Rattle.model_read.specs.Ends.{can_draw}
use Rattle.model_read.specs.Read.{drawing_of, Reads}
use Rattle.model_read.specs.Whole.{behind_limit}
use Rattle.model_read.proofs.Nothing.{read_nothing}
use Rattle.model_read.proofs.Tells.{files_stop, no_plane}
use Rattle.model_read.proofs.Finished.{Laws, blank, few, routes_stop, off, allowed, finished}
use Rattle.model_read.proofs.ends.finish.Goals as goal

pub returns-in_err-model : goal.returns-in_err-model
returns-in_err-model g c = λ stock built boxes.
    let ss = c.args.sections.now in
    let d = drawing_of c.args.frames in
    let old = g.R.Room.outside c.args.room.now in
    let is : c.from_residual.result ≡ Err Memory = search rules in
    subst (λ r. Reads (behind_limit ss d) d stock r old old) (sym is) (read_nothing (behind_limit ss d) d stock old)

pub returns-in_err-routes : goal.returns-in_err-routes
returns-in_err-routes g c = λ stock built boxes.
    let ss = c.args.sections.now in
    let d = drawing_of c.args.frames in
    let old = g.R.Room.outside c.args.room.now in
    let w = c.in_err-routes.field-0.0 in
    let is : c.from_residual-in_err-routes.result ≡ Err w = search rules in
    subst (λ r. Reads (behind_limit ss d) d stock r old old) (sym is)
    (routes_stop ss d c.args.judged.top c.in_ok-model.model c.in_ok-model.ensures c.requires.built.0 c.requires.built.1 c.blanks_are_laid.ensures w stock old c.in_err-routes.ensures)

pub returns-in-Err : goal.returns-in-Err
returns-in-Err g c = λ stock built boxes.
    let ss = c.args.sections.now in
    let d = drawing_of c.args.frames in
    let old = g.R.Room.outside c.args.room.now in
    let new = g.R.Room.outside c.initial_values.new.room in
    let few_paths = few ss d c.args.judged.top c.in_ok-model.model c.in_ok-model.ensures c.requires.built.0 c.requires.built.1 c.blanks_are_laid.ensures c.in_ok-routes.ensures.1 in
    files_stop ss d stock (Vec Initial Global) c.in-Err.why old new few_paths c.in-Err.ensures.read

pub returns-then-not-is_there : goal.returns-then-not-is_there
returns-then-not-is_there g c = λ stock built boxes.
    let ss = c.args.sections.now in
    let d = drawing_of c.args.frames in
    let old = g.R.Room.outside c.args.room.now in
    let new = g.R.Room.outside c.initial_values.new.room in
    let few_paths = few ss d c.args.judged.top c.in_ok-model.model c.in_ok-model.ensures c.requires.built.0 c.requires.built.1 c.blanks_are_laid.ensures c.in_ok-routes.ensures.1 in
    subst (λ r. Reads (behind_limit ss d) d stock (Err r) old new) (sym c.no_such_plane.ensures)
    (no_plane ss d stock (Vec Initial Global) c.in-Ok.values old new few_paths c.in-Ok.ensures.read
    (off ss d c.args.judged.top c.in_ok-model.model c.in_ok-model.ensures c.requires.passed.0 c.requires.passed.1 c.groups_are_met.ensures c.args.judged.groups.items c.requires.groups
    (sym (c.can_draw-is_there.ensures ∙ ap (can_draw d) c.deref.ensures.value) ∙ c.if-not-is_there.true)))

pub lay_values-requires-clause-blank : goal.lay_values-requires-clause-blank
lay_values-requires-clause-blank g c =
    blank c.args.sections.now (drawing_of c.args.frames) c.args.judged.top c.in_ok-model.model c.in_ok-model.ensures c.requires.built.0 c.requires.built.1 c.blanks_are_laid.ensures

pub returns : goal.returns
returns g c = λ stock built boxes.
    let ss = c.args.sections.now in
    let d = drawing_of c.args.frames in
    let top = c.args.judged.top in
    let m = c.in_ok-model.model in
    let of = c.in_ok-model.ensures in
    let old = g.R.Room.outside c.args.room.now in
    let new = g.R.Room.outside c.initial_values.new.room in
    let classes = c.requires.passed.0 in
    let passed = c.requires.passed.1 in
    let laws : Laws = record {
      met = c.groups_are_met.ensures;
      blanks = c.blanks_are_laid.ensures;
      links = c.links_stay.ensures;
      sound = c.laid_models_are_sound.ensures;
      boxes = c.boxes_are_standing.ensures;
      totals = c.totals_are_within_limits.ensures;
      files = c.files_are_laid.ensures;
    } in
    let few_paths = few ss d top m of c.requires.built.0 c.requires.built.1 c.blanks_are_laid.ensures c.in_ok-routes.ensures.1 in
    finished ss d top m of laws classes passed c.in-Ok.values.items c.in-Ok.ensures.sizes c.lay_values.new.model c.lay_values.ensures few_paths stock built
    (Vec Initial Global) c.in-Ok.values c.in_ok-routes.routes c.in_ok-routes.ensures.0 boxes old new c.in-Ok.ensures.read c.in-Ok.ensures.values
    (allowed ss d top m of classes passed c.groups_are_met.ensures c.args.judged.groups.items c.requires.groups
    (sym (c.can_draw-is_there.ensures ∙ ap (can_draw d) c.deref.ensures.value) ∙ c.if-not-is_there.false)) c.drawn_in-drawn.result c.drawn_in-drawn.ensures
