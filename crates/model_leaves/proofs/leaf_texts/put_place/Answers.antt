use Rattle.std.proofs.Common.{ap, ◌∙◌}
use Rattle.std.specs.Prelude.{◌++◌, ◌∷◌, decimal}
use Rattle.std.proofs.lemmas.Result.{on_ok_weaker}
use Rattle.quantity.specs.declared.place.Place.{Place}
use Rattle.cell_grid.specs.Space.{place_of}
use Rattle.model_leaves.specs.PlaneTexts.{plane_text}
use Rattle.model_leaves.proofs.Places.{place_put}
use Rattle.model_leaves.proofs.leaf_texts.put_place.Goals as goal

pub returns-clause-ok : goal.returns-clause-ok
returns-clause-ok c =
    let space = c.args.grid.now in
    let is = c.position-place.ensures.value in
    let row = c.in_ok-put_number.ensures.ok ∙ ap (λ (p : Place). c.args.into.now.items ++ 40 ∷ decimal p.row) is in
    let column = c.in_ok-put_number-2.ensures.ok ∙ ap (λ (p : Place). c.put_number.new.into.items ++ 44 ∷ decimal p.column) is in
    on_ok_weaker c.put_plane.result
    (λ h. place_put space (place_of space c.args.cell) c.args.into.now.items c.put_number.new.into.items c.put_number-2.new.into.items c.put_plane.new.into.items row column
    (h ∙ ap (λ (p : Place). c.put_number-2.new.into.items ++ plane_text space p.plane) is))
    c.put_plane.ensures.ok
