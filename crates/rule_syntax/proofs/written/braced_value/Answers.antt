use Rattle.std.proofs.Common.{refl}
use Rattle.rule_words.specs.Shown.{names_of, tokens_of}
use Rattle.rule_syntax.proofs.ReadParts.{braced_front, braced_stop}
use Rattle.rule_syntax.proofs.written.braced_value.Goals as goal

pub returns-in_default-2 : goal.returns-in_default-2
returns-in_default-2 c =
    braced_stop (names_of c.args.names.now) (tokens_of c.args.tokens.now) (tokens_of c.in-Some.inner.now) (tokens_of c.in-Some.rest.now) c.in_ok-values.field-0
    c.in-Some.ensures.parts c.in_ok-values.ensures c.in_default-2.is

pub returns : goal.returns
returns c =
    braced_front (names_of c.args.names.now) (tokens_of c.args.tokens.now) (tokens_of c.in-Some.inner.now) (tokens_of c.in-Some.rest.now) c.in_ok-values.field-0 _
    c.in-Some.ensures.parts c.in_ok-values.ensures c.in-Some-2.is refl
