use Rattle.std.proofs.Common.{◌∷◌, [], ◌++◌, map, take, get_or, sym, ap, ◌∙◌}
use Rattle.std.proofs.lemmas.List.{map-append, take_all, take_more}
use Rattle.model_read.specs.Spaces.{placed_space}
use Rattle.model_read.proofs.phases.group_spaces.Goals as goal

pub loop-group-preserved : goal.loop-group-preserved
loop-group-preserved c =
    let gs = c.args.groups.now in
    let i = c.loop-group.group-index in
    let d = c.group-item.result in
    let done = map placed_space (take i gs) in
    c.in_ok-add_space.ensures ∙ ap (λ spaces. spaces ++ placed_space d ∷ []) c.loop-group.invariant ∙ ap (λ g. done ++ placed_space g ∷ []) c.group-item.is
    ∙ sym (ap (map placed_space) (take_more gs i d c.loop-group-test.true) ∙ map-append placed_space (take i gs) (get_or gs i d ∷ []))

pub returns : goal.returns
returns c = c.loop-group.invariant ∙ ap (map placed_space) (take_all c.loop-group.group-index c.args.groups.now c.loop-group-test.false)
