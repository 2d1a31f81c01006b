use Rattle.std.proofs.Common.{◌≢◌, [], ap, sym, ◌∙◌, true≢false}
use Rattle.std.specs.Option.{option_map}
use Rattle.ma_lines.specs.Reader.{opened_of}
use Rattle.ma_lines.proofs.Opened.{begun}
use Rattle.ma_lines.proofs.Steps.{entry_allowed}
use Rattle.ma_lines.proofs.reader.Reader.begin.Goals as goal

pub returns-clause-allowed : goal.returns-clause-allowed
returns-clause-allowed c =
    let some : c.args.self.now.sections ≢ [] = λ none. true≢false (sym (c.is_empty.ensures.1 none) ∙ c.if-is_empty.false) in
    entry_allowed c.args.self.now.sections (option_map opened_of c.args.self.now.open_entry) c.args.line c.args.text.now (ap (option_map opened_of) c.requires.between)
    c.requires.allowed (sym c.is_heading.ensures ∙ c.if-is_heading.false)
    (begun c.args.line c.args.text.now (opened_of c.in-Some.entry) (sym (ap (option_map opened_of) c.in-Some.is) ∙ c.in_ok-entry.ensures)) some
