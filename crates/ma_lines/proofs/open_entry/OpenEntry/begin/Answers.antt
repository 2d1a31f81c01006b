use Rattle.std.proofs.Common.{◌≡◌, ◌≢◌, ap, arith, length, ◌∙◌}
use Rattle.std.proofs.lemmas.Bool.Decides.{nat_tests}
use Rattle.quantity.specs.Bytes.{without_outer_blanks}
use Rattle.source_text.specs.Lines.{in_lower_case}
use Rattle.ma_lines.proofs.Opened.{is_opened, with_key, without_colon, without_key}
use Rattle.ma_lines.proofs.open_entry.OpenEntry.begin.Goals as goal
use Rattle.ma_lines.proofs.open_entry.OpenEntry.begin.Goals.{then-before-text-via-then-before-text, then-before-text-via-else-before-text+then-is_empty}

pub returns-then-before-text : goal.returns-then-before-text
returns-then-before-text c =
    elim c.then-before-text.branch [
      | then-before-text-via-then-before-text w ↦
          without_colon c.args.line c.args.text.now c.cut_at.result.0.now c.cut_at.ensures.before w.if-before-text.true
      | then-before-text-via-else-before-text+then-is_empty w ↦
          let none : length c.trimmed-key.result.now ≡ 0 = grind (arith, nat_tests) in
          without_key c.args.line c.args.text.now c.cut_at.result.0.now c.trimmed-key.result.now c.cut_at.ensures.before c.trimmed-key.ensures none
    ]

pub returns : goal.returns
returns c =
    let some : length c.trimmed-key.result.now ≢ 0 = grind (arith, nat_tests) in
    with_key c.args.line c.args.text.now c.cut_at.result.0.now c.trimmed-key.result.now _ c.cut_at.ensures.before c.if-before-text.false c.trimmed-key.ensures some
    (is_opened c.args.line c.args.text.now c.in_ok-folded.field-0.items c.in_ok-from_slice.field-0.items c.cut_at.result.1.now c.braces_after.result c.requires
    (c.in_ok-folded.ensures ∙ ap in_lower_case (c.trimmed-key.ensures ∙ ap without_outer_blanks c.cut_at.ensures.before))
    c.cut_at.ensures.after (c.in_ok-from_slice.ensures.items ∙ c.trimmed.ensures) c.braces_after.ensures.value)
