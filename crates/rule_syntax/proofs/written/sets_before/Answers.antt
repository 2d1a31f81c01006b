use Rattle.std.proofs.Common.{refl}
use Rattle.rule_words.specs.Shown.{names_of, tokens_of}
use Rattle.rule_syntax.specs.declared.named.Kind.TheVariants.{Variable}
use Rattle.rule_syntax.proofs.ReadParts.{no_sets, sets_front, sets_stop}
use Rattle.rule_syntax.proofs.written.sets_before.Goals as goal

pub returns-in_default : goal.returns-in_default
returns-in_default c = no_sets (names_of c.args.names.now) (tokens_of c.args.tokens.now) _ c.in_default.ensures (c.none.ensures (names_of c.args.names.now) Variable) refl

pub returns-in_default-2 : goal.returns-in_default-2
returns-in_default-2 c =
    sets_stop (names_of c.args.names.now) (tokens_of c.args.tokens.now) (tokens_of c.in-Some.inner.now) (tokens_of c.in-Some.rest.now) c.in_ok-values.field-0
    c.in-Some.ensures c.in_ok-values.ensures c.in_default-2.is

pub returns : goal.returns
returns c =
    sets_front (names_of c.args.names.now) (tokens_of c.args.tokens.now) (tokens_of c.in-Some.inner.now) (tokens_of c.in-Some.rest.now) c.in_ok-values.field-0 _
    c.in-Some.ensures c.in_ok-values.ensures c.in-Some-2.is refl
