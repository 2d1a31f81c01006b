use Rattle.std.proofs.Common.{◌≡◌, [], ◌∷◌, ◌++◌, ap, sym, ◌∙◌, arith}
use Rattle.std.proofs.lemmas.Grind.{common_steps}
use Rattle.std.specs.Bool.{then_some}
use Rattle.quantity.specs.Bytes.{is_empty}
use Rattle.source_text.specs.Tuples.{parts_of}
use Rattle.cell_grid.specs.Reading.{ranges_of_parts}
use Rattle.cell_grid.proofs.Gathered.{behind}
use Rattle.cell_grid.proofs.FileLemmas.{no_text_is}
use Rattle.cell_grid.proofs.ZoneLemmas.{all_ranges, range_more, some_there}
use Rattle.cell_grid.proofs.zone_text.ranges_in.Goals as goal

pub parts-preserved : goal.parts-preserved
parts-preserved c =
    let space = c.args.grid.now in
    let rest = ranges_of_parts space (parts_of c.in-Some-first_range.others.now) in
    let pushed : c.push.new.self.items ≡ c.parts.ranges.items ++ c.in-Some-first_range.corners ∷ [] = grind (arith, common_steps) in
    range_more c.parts.ranges.items _ (ranges_of_parts space (parts_of c.parts.left.now)) c.parts.invariant c.in-Some-first_range.corners rest
    (ap (ranges_of_parts space) c.in-Some.ensures.parts ∙ c.in-Some-first_range.ensures.value) ∙ ap (λ ranges. behind ranges rest) (sym pushed)

pub returns-clause-ok : goal.returns-clause-ok
returns-clause-ok c =
    let space = c.args.grid.now in
    let blank = ap is_empty (sym c.trimmed.ensures) ∙ no_text_is c.trimmed.result.now c.is_empty-2.ensures c.if-not-is_empty.false in
    all_ranges c.parts.ranges.items _ (ranges_of_parts space (parts_of c.parts.left.now)) c.parts.invariant
    (ap (ranges_of_parts space) (c.in_default.ensures.parts ∙ ap (λ b. then_some b []) blank)) (omega (arith, some_there _ c.is_empty.ensures c.if-is_empty.false))
