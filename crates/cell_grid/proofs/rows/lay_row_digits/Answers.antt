use Rattle.std.proofs.Common.{◌≡◌, None, ◌∷◌, refl, sym, ap, ◌∙◌, arith, rules, map}
use Rattle.std.specs.Result.{result_ok}
use Rattle.quantity.specs.Bytes.{all_there, words}
use Rattle.cell_grid.specs.Initial.{digit_value, digits_row, row_digits}
use Rattle.cell_grid.proofs.RowLemmas.{if_absent, if_none, if_some, if_there, no_more, row_within, third_word}
use Rattle.cell_grid.proofs.rows.lay_row_digits.Goals as goal

pub returns-in_err-number : goal.returns-in_err-number
returns-in_err-number c =
    let none = if_none _ c.next_word.result c.next_word.ensures.words (c.ok_or.ensures.ok_part ∙ ap result_ok c.in_err-number.was) in
    let bad : row_digits c.args.grid.now c.args.text.now ≡ None = ap (digits_row c.args.grid.now) none in
    search rules

pub returns-in_err-chars : goal.returns-in_err-chars
returns-in_err-chars c =
    let first = if_some _ _ c.next_word.result c.next_word.ensures.words _ (c.ok_or.ensures.ok_part ∙ ap result_ok c.in_ok-number.was) in
    let none = if_none _ c.next_word-2.result c.next_word-2.ensures.words (c.ok_or-2.ensures.ok_part ∙ ap result_ok c.in_err-chars.was) in
    let bad : row_digits c.args.grid.now c.args.text.now ≡ None = ap (digits_row c.args.grid.now) (first ∙ ap (λ ws. c.in_ok-number.number.now ∷ ws) none) in
    search rules

pub returns-then-is_some : goal.returns-then-is_some
returns-then-is_some c =
    let first = if_some _ _ c.next_word.result c.next_word.ensures.words _ (c.ok_or.ensures.ok_part ∙ ap result_ok c.in_ok-number.was) in
    let second = if_some _ _ c.next_word-2.result c.next_word-2.ensures.words _ (c.ok_or-2.ensures.ok_part ∙ ap result_ok c.in_ok-chars.was) in
    let whole = first ∙ ap (λ ws. c.in_ok-number.number.now ∷ ws) second in (
      refl,
      ap (digits_row c.args.grid.now) whole
          ∙ third_word c.args.grid.now c.in_ok-number.number.now c.in_ok-chars.chars.now (words c.in_ok-chars.rest.now) c.next_word-3.result c.next_word-3.ensures.words (sym c.is_some.ensures ∙ c.if-is_some.true),
    )

pub returns-in_err-row : goal.returns-in_err-row
returns-in_err-row c =
    let first = if_some _ _ c.next_word.result c.next_word.ensures.words _ (c.ok_or.ensures.ok_part ∙ ap result_ok c.in_ok-number.was) in
    let second = if_some _ _ c.next_word-2.result c.next_word-2.ensures.words _ (c.ok_or-2.ensures.ok_part ∙ ap result_ok c.in_ok-chars.was) in
    let third = no_more _ _ c.next_word-3.result c.next_word-3.ensures.words (sym c.is_some.ensures ∙ c.if-is_some.false) in
    let whole = first ∙ ap (λ ws. c.in_ok-number.number.now ∷ ws) (second ∙ ap (λ ws. c.in_ok-chars.chars.now ∷ ws) third) in
    let none = if_absent c.row_number.result c.row_number.ensures.none (c.ok_or-3.ensures.ok_part ∙ ap result_ok c.in_err-row.was) in
    let bad : row_digits c.args.grid.now c.args.text.now ≡ None = ap (digits_row c.args.grid.now) whole ∙ none (all_there (map digit_value c.in_ok-chars.chars.now)) in
    search rules

pub overflow_mul-start : goal.overflow_mul-start
overflow_mul-start c = omega (arith, row_within c.args.grid.now c.in_ok-row.row c.columns-columns.result (if_there _ c.row_number.result c.row_number.ensures.dims c.in_ok-row.row (c.ok_or-3.ensures.ok_part ∙ ap result_ok c.in_ok-row.was)) (if_there _ c.row_number.result c.row_number.ensures.below c.in_ok-row.row (c.ok_or-3.ensures.ok_part ∙ ap result_ok c.in_ok-row.was)) c.columns-columns.ensures.value)

pub overflow_add-start : goal.overflow_add-start
overflow_add-start c = omega (arith, row_within c.args.grid.now c.in_ok-row.row c.columns-columns.result (if_there _ c.row_number.result c.row_number.ensures.dims c.in_ok-row.row (c.ok_or-3.ensures.ok_part ∙ ap result_ok c.in_ok-row.was)) (if_there _ c.row_number.result c.row_number.ensures.below c.in_ok-row.row (c.ok_or-3.ensures.ok_part ∙ ap result_ok c.in_ok-row.was)) c.columns-columns.ensures.value)

pub offset_bounds-values-start : goal.offset_bounds-values-start
offset_bounds-values-start c = omega (arith, row_within c.args.grid.now c.in_ok-row.row c.columns-columns.result (if_there _ c.row_number.result c.row_number.ensures.dims c.in_ok-row.row (c.ok_or-3.ensures.ok_part ∙ ap result_ok c.in_ok-row.was)) (if_there _ c.row_number.result c.row_number.ensures.below c.in_ok-row.row (c.ok_or-3.ensures.ok_part ∙ ap result_ok c.in_ok-row.was)) c.columns-columns.ensures.value)

pub slice_bounds-lay_digits-end : goal.slice_bounds-lay_digits-end
slice_bounds-lay_digits-end c =
    let within = row_within c.args.grid.now c.in_ok-row.row c.columns-columns.result (if_there _ c.row_number.result c.row_number.ensures.dims c.in_ok-row.row (c.ok_or-3.ensures.ok_part ∙ ap result_ok c.in_ok-row.was)) (if_there _ c.row_number.result c.row_number.ensures.below c.in_ok-row.row (c.ok_or-3.ensures.ok_part ∙ ap result_ok c.in_ok-row.was)) c.columns-columns.ensures.value in
    search rules

pub slice_bounds-lay_digits-start : goal.slice_bounds-lay_digits-start
slice_bounds-lay_digits-start c =
    let within = row_within c.args.grid.now c.in_ok-row.row c.columns-columns.result (if_there _ c.row_number.result c.row_number.ensures.dims c.in_ok-row.row (c.ok_or-3.ensures.ok_part ∙ ap result_ok c.in_ok-row.was)) (if_there _ c.row_number.result c.row_number.ensures.below c.in_ok-row.row (c.ok_or-3.ensures.ok_part ∙ ap result_ok c.in_ok-row.was)) c.columns-columns.ensures.value in
    search rules
