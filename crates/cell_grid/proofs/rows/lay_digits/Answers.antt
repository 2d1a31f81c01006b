use Rattle.std.proofs.Common.{length, map, refl, sym, ap, ◌∙◌, arith}
use Rattle.std.specs.Result.{result_ok}
use Rattle.std.proofs.lemmas.List.{length-map}
use Rattle.cell_grid.specs.Initial.{digit_value}
use Rattle.cell_grid.proofs.Gathered.{length-gathered}
use Rattle.cell_grid.proofs.RowLemmas.{digit_laid}
use Rattle.cell_grid.proofs.rows.lay_digits.Goals as goal

pub returns-then-chars-cells : goal.returns-then-chars-cells
returns-then-chars-cells c =
    (refl, length-gathered (length c.args.cells.now) (map digit_value c.args.chars.now) (λ same. omega (arith, length-map c.args.chars.now digit_value)))

pub loop-place-preserved : goal.loop-place-preserved
loop-place-preserved c =
    rw c.of.ensures (digit_laid c.args.chars.now c.loop-place.cells c.loop-place.place c.in_ok-value.value (omega arith) (omega arith) (sym c.parse.ensures ∙ c.ok_or.ensures.ok_part ∙ ap result_ok c.in_ok-value.was) c.loop-place.invariant)
