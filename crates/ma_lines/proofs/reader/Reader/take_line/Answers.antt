use Rattle.std.proofs.Common.{arith, ◌≡◌, length, sym, ap, ◌∙◌}
use Rattle.std.specs.Option.{option_map}
use Rattle.std.proofs.lemmas.Bool.Decides.{nat_tests}
use Rattle.ma_lines.specs.Reader.{opened_of}
use Rattle.ma_lines.proofs.Steps.{empty_changes_nothing, empty_text, still_open, text_within}
use Rattle.ma_lines.proofs.reader.Reader.take_line.Goals as goal

pub returns-then-is_empty-clause-taken : goal.returns-then-is_empty-clause-taken
returns-then-is_empty-clause-taken c =
    let none : length c.text_of_line-text.result.now ≡ 0 = grind (arith, nat_tests) in
    empty_changes_nothing c.args.self.now.sections (option_map opened_of c.args.self.now.open_entry) c.args.number _
    (still_open c.args.self.now.open_entry c.args.self.now.is_open)
    (sym c.text_of_line-text.ensures ∙ empty_text c.text_of_line-text.result.now none)

pub take-requires-clause-few : goal.take-requires-clause-few
take-requires-clause-few c =
    omega (arith, text_within c.args.line.now, ap length c.text_of_line-text.ensures)
