use Rattle.std.proofs.Common.{◌≡◌, None, ap, ◌∙◌, arith, rules, map}
use Rattle.std.specs.Result.{result_ok}
use Rattle.quantity.specs.Bytes.{all_there, words}
use Rattle.quantity.specs.Literals.{value_in}
use Rattle.cell_grid.specs.Initial.{row_values, values_row}
use Rattle.cell_grid.proofs.RowLemmas.{if_absent, if_none, if_some, if_there, row_within}
use Rattle.cell_grid.proofs.rows.lay_row_values.Goals as goal

pub returns-in_err-number : goal.returns-in_err-number
returns-in_err-number c =
    let none = if_none _ c.next_word.result c.next_word.ensures.words (c.ok_or.ensures.ok_part ∙ ap result_ok c.in_err-number.was) in
    let bad : row_values c.args.grid.now c.args.text.now ≡ None = ap (values_row c.args.grid.now) none in
    search rules

pub returns-in_err-row : goal.returns-in_err-row
returns-in_err-row c =
    let first = if_some _ _ c.next_word.result c.next_word.ensures.words _ (c.ok_or.ensures.ok_part ∙ ap result_ok c.in_ok-number.was) in
    let none = if_absent c.row_number.result c.row_number.ensures.none (c.ok_or-2.ensures.ok_part ∙ ap result_ok c.in_err-row.was) in
    let bad : row_values c.args.grid.now c.args.text.now ≡ None = ap (values_row c.args.grid.now) first ∙ none (all_there (map value_in (words c.in_ok-number.rest.now))) in
    search rules

pub overflow_mul-start : goal.overflow_mul-start
overflow_mul-start c = omega (arith, row_within c.args.grid.now c.in_ok-row.row c.columns-columns.result (if_there _ c.row_number.result c.row_number.ensures.dims c.in_ok-row.row (c.ok_or-2.ensures.ok_part ∙ ap result_ok c.in_ok-row.was)) (if_there _ c.row_number.result c.row_number.ensures.below c.in_ok-row.row (c.ok_or-2.ensures.ok_part ∙ ap result_ok c.in_ok-row.was)) c.columns-columns.ensures.value)

pub overflow_add-start : goal.overflow_add-start
overflow_add-start c = omega (arith, row_within c.args.grid.now c.in_ok-row.row c.columns-columns.result (if_there _ c.row_number.result c.row_number.ensures.dims c.in_ok-row.row (c.ok_or-2.ensures.ok_part ∙ ap result_ok c.in_ok-row.was)) (if_there _ c.row_number.result c.row_number.ensures.below c.in_ok-row.row (c.ok_or-2.ensures.ok_part ∙ ap result_ok c.in_ok-row.was)) c.columns-columns.ensures.value)

pub offset_bounds-values-start : goal.offset_bounds-values-start
offset_bounds-values-start c = omega (arith, row_within c.args.grid.now c.in_ok-row.row c.columns-columns.result (if_there _ c.row_number.result c.row_number.ensures.dims c.in_ok-row.row (c.ok_or-2.ensures.ok_part ∙ ap result_ok c.in_ok-row.was)) (if_there _ c.row_number.result c.row_number.ensures.below c.in_ok-row.row (c.ok_or-2.ensures.ok_part ∙ ap result_ok c.in_ok-row.was)) c.columns-columns.ensures.value)

pub slice_bounds-lay_words-end : goal.slice_bounds-lay_words-end
slice_bounds-lay_words-end c =
    let within = row_within c.args.grid.now c.in_ok-row.row c.columns-columns.result (if_there _ c.row_number.result c.row_number.ensures.dims c.in_ok-row.row (c.ok_or-2.ensures.ok_part ∙ ap result_ok c.in_ok-row.was)) (if_there _ c.row_number.result c.row_number.ensures.below c.in_ok-row.row (c.ok_or-2.ensures.ok_part ∙ ap result_ok c.in_ok-row.was)) c.columns-columns.ensures.value in
    search rules

pub slice_bounds-lay_words-start : goal.slice_bounds-lay_words-start
slice_bounds-lay_words-start c =
    let within = row_within c.args.grid.now c.in_ok-row.row c.columns-columns.result (if_there _ c.row_number.result c.row_number.ensures.dims c.in_ok-row.row (c.ok_or-2.ensures.ok_part ∙ ap result_ok c.in_ok-row.was)) (if_there _ c.row_number.result c.row_number.ensures.below c.in_ok-row.row (c.ok_or-2.ensures.ok_part ∙ ap result_ok c.in_ok-row.was)) c.columns-columns.ensures.value in
    search rules
