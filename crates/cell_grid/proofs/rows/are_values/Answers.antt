use Rattle.std.proofs.Common.{[], ◌∷◌, ◌++◌, map, sym, ap, ◌∙◌, arith, length-append}
use Rattle.std.specs.Option.{is_some}
use Rattle.quantity.specs.Bytes.{words, all_there}
use Rattle.quantity.specs.Literals.{value_in}
use Rattle.cell_grid.proofs.Gathered.{gathered_more, too_many}
use Rattle.cell_grid.proofs.rows.are_values.Goals as goal

pub loop-number-preserved : goal.loop-number-preserved
loop-number-preserved c =
    let so_far = c.loop-number.invariant in
    let value = c.in-Some-parse._value in (
      so_far.0 ++ value ∷ [],
      omega (arith, length-append so_far.0 (value ∷ []), so_far.1),
      gathered_more value_in (all_there (map value_in (words c.args.text.now))) so_far.0 (words c.loop-number.left.now) so_far.2
          c.in-Some.word.now (words c.in-Some.behind.now) value c.in-Some.ensures.words (sym c.parse.ensures ∙ c.in-Some-parse.is),
    )

pub returns-in-Some-next_word : goal.returns-in-Some-next_word
returns-in-Some-next_word c =
    let so_far = c.loop-number.invariant in
    let next = c.in-Some-next_word.field-0 in
    sym (ap is_some (too_many value_in (all_there (map value_in (words c.args.text.now))) so_far.0 (words c.loop-number.left.now) so_far.2
    c.args.columns next.0.now (words next.1.now) c.in-Some-next_word.ensures.words (omega (arith, so_far.1))))
