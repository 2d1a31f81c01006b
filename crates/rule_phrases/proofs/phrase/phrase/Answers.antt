use Rattle.std.proofs.Common.{length, arith}
use Rattle.rule_words.specs.Shown.{names_of}
use Rattle.rule_phrases.proofs.WholePhrase.{no_phrase, whole_phrase, phrase_and_more}
use Rattle.rule_phrases.proofs.phrase.phrase.Goals as goal

pub returns-in_default : goal.returns-in_default
returns-in_default c =
    let tokens = c.args.tokens.now in
    no_phrase (names_of c.args.names.now) tokens c.in_ok-read.field-0 (c.in_ok-read.ensures.read (length tokens) (omega arith)) c.in_default.is

pub returns-then-is_empty : goal.returns-then-is_empty
returns-then-is_empty c =
    let tokens = c.args.tokens.now in
    whole_phrase (names_of c.args.names.now) tokens c.in_ok-read.field-0 c.in-Some.read (c.in_ok-read.ensures.read (length tokens) (omega arith)) c.in-Some.is c.if-is_empty.ensures

pub returns-else-is_empty : goal.returns-else-is_empty
returns-else-is_empty c =
    let tokens = c.args.tokens.now in
    phrase_and_more (names_of c.args.names.now) tokens c.in_ok-read.field-0 c.in-Some.read (c.in_ok-read.ensures.read (length tokens) (omega arith)) c.in-Some.is c.if-is_empty.ensures
