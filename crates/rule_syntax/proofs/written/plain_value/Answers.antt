use Rattle.std.proofs.Common.{refl}
use Rattle.rule_syntax.specs.RulesRead.{plain_before}
use Rattle.rule_words.specs.Shown.{names_of, tokens_of}
use Rattle.rule_syntax.proofs.ReadParts.{plain_found}
use Rattle.rule_syntax.proofs.written.plain_value.Goals as goal

pub returns : goal.returns
returns c = plain_found (names_of c.args.names.now) (plain_before (tokens_of c.args.tokens.now)) c.in-Some.front _ c.in-Some.ensures c.in_ok-values.ensures refl
