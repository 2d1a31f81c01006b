use Rattle.std.proofs.Common.{◌≡◌, None, sym, ap, ◌∙◌, arith, rules}
use Rattle.std.specs.List.{fold}
use Rattle.std.specs.Option.{option_map}
use Rattle.std.specs.Result.{result_ok}
use Rattle.quantity.specs.Bytes.{in_front}
use Rattle.source_text.specs.Lines.{text_of_line}
use Rattle.cell_grid.specs.Initial.{cells_file, with_cell}
use Rattle.cell_grid.proofs.FileLemmas.{cells_left, cells_file_is, empty_line, filled_line, less_behind, no_text_is, nothing_left, one_cell_laid, refused}
use Rattle.cell_grid.proofs.RowLemmas.{if_there}
use Rattle.cell_grid.proofs.files.lay_cells.Goals as goal

pub bounds-values-cell : goal.bounds-values-cell
bounds-values-cell c =
    omega (arith, c.requires, if_there _ c.cell_line.result c.cell_line.ensures.inside (c.in_ok-cell.cell, c.in_ok-cell.value) (c.ok_or.ensures.ok_part ∙ ap result_ok c.in_ok-cell.was))

pub loop-left-smaller-in_ok-cell : goal.loop-left-smaller-in_ok-cell
loop-left-smaller-in_ok-cell c = less_behind c.loop-left.left.now c.cut_at.result.1.now c.cut_at.ensures.after c.is_empty.ensures c.loop-left-test.true

pub loop-left-smaller : goal.loop-left-smaller
loop-left-smaller c = less_behind c.loop-left.left.now c.cut_at.result.1.now c.cut_at.ensures.after c.is_empty.ensures c.loop-left-test.true

pub returns-in_err-cell : goal.returns-in_err-cell
returns-in_err-cell c =
    let space = c.args.grid.now in
    let left = c.loop-left.left.now in
    let filled = filled_line space left c.text_of_line-text.result.now c.cut_at.result.1.now (c.text_of_line-text.ensures ∙ ap text_of_line c.cut_at.ensures.before) c.cut_at.ensures.after
    (no_text_is c.text_of_line-text.result.now c.is_empty-in-loop-left.ensures c.if-not-is_empty.true) in
    let none = filled ∙ ap (λ o. in_front o (cells_left space c.cut_at.result.1.now)) (sym c.cell_line.ensures.value ∙ c.ok_or.ensures.ok_part ∙ ap result_ok c.in_err-cell.was) in
    let bad : cells_file space c.args.file.now ≡ None =
    sym (cells_file_is space c.args.file.now)
    ∙ refused c.loop-left.values c.args.values.now (cells_left space c.args.file.now) (sym (ap (option_map (fold with_cell c.loop-left.values)) none) ∙ c.loop-left.invariant) in
    search rules

pub loop-left-preserved-in_ok-cell : goal.loop-left-preserved-in_ok-cell
loop-left-preserved-in_ok-cell c =
    let space = c.args.grid.now in
    let left = c.loop-left.left.now in
    let filled = filled_line space left c.text_of_line-text.result.now c.cut_at.result.1.now (c.text_of_line-text.ensures ∙ ap text_of_line c.cut_at.ensures.before) c.cut_at.ensures.after
    (no_text_is c.text_of_line-text.result.now c.is_empty-in-loop-left.ensures c.if-not-is_empty.true) in
    let some = filled ∙ ap (λ o. in_front o (cells_left space c.cut_at.result.1.now)) (sym c.cell_line.ensures.value ∙ c.ok_or.ensures.ok_part ∙ ap result_ok c.in_ok-cell.was) in
    rw c.of.ensures
    (one_cell_laid c.loop-left.values (c.in_ok-cell.cell, c.in_ok-cell.value) (cells_left space c.cut_at.result.1.now)
    ∙ sym (ap (option_map (fold with_cell c.loop-left.values)) some) ∙ c.loop-left.invariant)

pub loop-left-preserved : goal.loop-left-preserved
loop-left-preserved c =
    let space = c.args.grid.now in
    let left = c.loop-left.left.now in
    let empty = empty_line space left c.text_of_line-text.result.now c.cut_at.result.1.now (c.text_of_line-text.ensures ∙ ap text_of_line c.cut_at.ensures.before) c.cut_at.ensures.after
    (no_text_is c.text_of_line-text.result.now c.is_empty-in-loop-left.ensures c.if-not-is_empty.false) in
    sym (ap (option_map (fold with_cell c.loop-left.values)) empty) ∙ c.loop-left.invariant

pub returns : goal.returns
returns c =
    let space = c.args.grid.now in
    ap (option_map (fold with_cell c.args.values.now)) (sym (cells_file_is space c.args.file.now)) ∙ sym c.loop-left.invariant
    ∙ ap (λ left. option_map (fold with_cell c.loop-left.values) (cells_left space left)) (nothing_left c.loop-left.left.now c.is_empty.ensures c.loop-left-test.false)
