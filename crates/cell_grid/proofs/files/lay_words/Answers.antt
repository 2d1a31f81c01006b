use Rattle.std.proofs.Common.{◌≡◌, None, length, take, refl, sym, ap, ◌∙◌, arith, rules}
use Rattle.std.specs.Result.{result_ok}
use Rattle.std.proofs.lemmas.List.{length-take-le}
use Rattle.quantity.specs.Literals.{value_in}
use Rattle.cell_grid.specs.Reading.{words_left, values_for}
use Rattle.cell_grid.proofs.Gathered.{too_many}
use Rattle.cell_grid.proofs.RowLemmas.{all_laid, if_none, if_some, no_value, no_word, word_laid}
use Rattle.cell_grid.proofs.files.lay_words.Goals as goal

pub returns-in_err-word : goal.returns-in_err-word
returns-in_err-word c =
    let texts = words_left c.args.words.line.now c.args.words.behind.now in
    let left = words_left c.loop-cell.left.line.now c.loop-cell.left.behind.now in
    let none = if_none _ c.next_left.result c.next_left.ensures (c.ok_or.ensures.ok_part ∙ ap result_ok c.in_err-word.was) in
    let many : length c.loop-cell.cells ≡ length c.args.cells.now = omega arith in
    let bad : values_for (length c.args.cells.now) texts ≡ None =
    ap (λ n. values_for n texts) (sym many) ∙ no_word texts left c.loop-cell.cells c.loop-cell.cell-index c.loop-cell.invariant none (omega arith) in
    search rules

pub returns-in_err-value : goal.returns-in_err-value
returns-in_err-value c =
    let texts = words_left c.args.words.line.now c.args.words.behind.now in
    let left = words_left c.loop-cell.left.line.now c.loop-cell.left.behind.now in
    let next = if_some _ _ c.next_left.result c.next_left.ensures _ (c.ok_or.ensures.ok_part ∙ ap result_ok c.in_ok-word.was) in
    let none = sym c.parse.ensures ∙ c.ok_or-in-loop-cell.ensures.ok_part ∙ ap result_ok c.in_err-value.was in
    let bad : values_for (length c.args.cells.now) texts ≡ None = no_value texts left c.loop-cell.cells c.loop-cell.cell-index c.loop-cell.invariant (length c.args.cells.now) _ _ next none in
    search rules

pub loop-cell-preserved : goal.loop-cell-preserved
loop-cell-preserved c =
    let texts = words_left c.args.words.line.now c.args.words.behind.now in
    let left = words_left c.loop-cell.left.line.now c.loop-cell.left.behind.now in
    let next = if_some _ _ c.next_left.result c.next_left.ensures _ (c.ok_or.ensures.ok_part ∙ ap result_ok c.in_ok-word.was) in
    let value = sym c.parse.ensures ∙ c.ok_or-in-loop-cell.ensures.ok_part ∙ ap result_ok c.in_ok-value.was in
    rw c.of.ensures (word_laid texts left c.loop-cell.cells c.loop-cell.cell-index c.loop-cell.invariant _ _ c.in_ok-value.value next value (omega arith))

pub returns-in-None : goal.returns-in-None
returns-in-None c =
    let texts = words_left c.args.words.line.now c.args.words.behind.now in
    let left = words_left c.loop-cell.left.line.now c.loop-cell.left.behind.now in
    let many : length c.loop-cell.cells ≡ length c.args.cells.now = omega arith in
    ap (λ n. values_for n texts) (sym many) ∙ all_laid texts left c.loop-cell.cells c.loop-cell.cell-index c.loop-cell.invariant c.in-None.ensures (omega arith)

pub returns-in-Some : goal.returns-in-Some
returns-in-Some c =
    let next = c.in-Some.field-0 in (
      refl,
      too_many value_in _ (take c.loop-cell.cell-index c.loop-cell.cells) (words_left c.loop-cell.left.line.now c.loop-cell.left.behind.now) c.loop-cell.invariant
          (length c.args.cells.now) next.0.now (words_left next.1.line.now next.1.behind.now) c.in-Some.ensures
          (omega (arith, length-take-le c.loop-cell.cell-index c.loop-cell.cells)),
    )
