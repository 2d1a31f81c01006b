use Rattle.std.proofs.Common.{ap, sym, ◌∷◌, ◌∙◌}
use Rattle.source_text.proofs.TupleParts.{more_parts, three_parts, tuple-closed, tuple_in_parts, two_parts}
use Rattle.source_text.proofs.tuples.tuple_between.Goals as goal

pub returns-in_default-clause-value : goal.returns-in_default-clause-value
returns-in_default-clause-value c =
    let row = c.in_ok-row.row.now in
    c.in_plane.ensures.value
    ∙ sym (tuple-closed c.args.inner.now
    ∙ ap tuple_in_parts (c.in_ok-row.ensures.parts ∙ ap (λ ps. row ∷ ps) c.in_default.ensures.parts)
    ∙ two_parts row c.in_ok-row.rest.now)

pub returns-in-Some-part_before-clause-value : goal.returns-in-Some-part_before-clause-value
returns-in-Some-part_before-clause-value c =
    let row = c.in_ok-row.row.now in
    let column = c.in-Some.column.now in
    sym (tuple-closed c.args.inner.now
    ∙ ap tuple_in_parts (c.in_ok-row.ensures.parts ∙ ap (λ ps. row ∷ ps) c.in-Some.ensures.parts ∙ ap (λ ps. row ∷ column ∷ ps) c.in-Some-part_before.ensures.parts)
    ∙ more_parts row column c.in-Some-part_before.field-0.0.now c.in-Some-part_before.field-0.1.now)

pub returns-in-None-clause-value : goal.returns-in-None-clause-value
returns-in-None-clause-value c =
    let row = c.in_ok-row.row.now in
    let column = c.in-Some.column.now in
    c.in_space.ensures.value
    ∙ sym (tuple-closed c.args.inner.now
    ∙ ap tuple_in_parts (c.in_ok-row.ensures.parts ∙ ap (λ ps. row ∷ ps) c.in-Some.ensures.parts ∙ ap (λ ps. row ∷ column ∷ ps) c.in-None.ensures.parts)
    ∙ three_parts row column c.in-Some.plane.now)
