-- Private: what the examples compute by.
pub use Rattle.std.specs.Fmt.{digits}
pub use Rattle.ma_lines.specs.Sections.{sections_of}
pub use Rattle.rule_syntax.specs.Tokens.{tokens}
pub use Rattle.rule_syntax.specs.Reading.{written_rule}
pub use Rattle.rule_syntax.specs.RuleOf.{rule_of_text}
