use Rattle.std.proofs.Common.{◌≡◌, Some, ap, sym, ◌∙◌}
use Rattle.std.specs.Option.{option_map}
use Rattle.ma_lines.specs.Reading.{refused_in}
use Rattle.ma_lines.specs.Reader.{line_of, opened_of, reading_of}
use Rattle.ma_lines.proofs.Steps.{joined_allowed, not_allowed, still_open}
use Rattle.ma_lines.proofs.reader.Reader.take.Goals as goal

pub returns-then-not-all_are_allowed-clause-refused : goal.returns-then-not-all_are_allowed-clause-refused
returns-then-not-all_are_allowed-clause-refused c = λ _.
    not_allowed (reading_of c.args.self.now) c.args.line c.args.text.now (sym c.all_are_allowed.ensures ∙ c.if-not-all_are_allowed.true)

pub returns-in_ok-settle-in-Some-clause-allowed : goal.returns-in_ok-settle-in-Some-clause-allowed
returns-in_ok-settle-in-Some-clause-allowed c =
    let was : c.args.self.now.open_entry ≡ Some c.in-Some.entry = sym c.take.ensures.value ∙ c.in-Some.is in
    ap (λ o. refused_in (record { sections = c.args.self.now.sections; open_entry = option_map opened_of o }) (line_of c.args.line c.args.text.now)) was
    ∙ joined_allowed c.args.self.now.sections (opened_of c.in-Some.entry) c.args.line c.args.text.now
    (still_open (Some c.in-Some.entry) (λ x is. c.args.self.now.is_open x (was ∙ is)))
    (sym c.all_are_allowed.ensures ∙ c.if-not-all_are_allowed.false)
