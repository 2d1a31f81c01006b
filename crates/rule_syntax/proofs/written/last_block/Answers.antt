use Rattle.std.proofs.Common.{Some, None, sym, ◌∙◌}
use Rattle.rule_words.specs.Reading.{phrase_block}
use Rattle.rule_words.specs.Shown.{names_of, tokens_of}
use Rattle.rule_syntax.proofs.ReadParts.{front_is, last_found, last_left, no_last}
use Rattle.rule_syntax.proofs.TokenParts.{empty_by}
use Rattle.rule_syntax.proofs.written.last_block.Goals as goal

pub returns-in_default : goal.returns-in_default
returns-in_default c =
    let names = names_of c.args.names.now in
    let ts = tokens_of c.args.tokens.now in
    no_last names (phrase_block ts) (front_is names (phrase_block ts) c.in_ok-front.field-0 None c.in_ok-front.ensures c.in_default.is)

pub returns-then-not-is_empty : goal.returns-then-not-is_empty
returns-then-not-is_empty c =
    let names = names_of c.args.names.now in
    let ts = tokens_of c.args.tokens.now in
    last_left names (phrase_block ts) c.in-Some.front (front_is names (phrase_block ts) c.in_ok-front.field-0 (Some c.in-Some.front) c.in_ok-front.ensures c.in-Some.is)
    (empty_by _ _ (sym c.is_empty.ensures ∙ c.if-not-is_empty.true))

pub returns : goal.returns
returns c =
    let names = names_of c.args.names.now in
    let ts = tokens_of c.args.tokens.now in
    last_found names (phrase_block ts) c.in-Some.front (front_is names (phrase_block ts) c.in_ok-front.field-0 (Some c.in-Some.front) c.in_ok-front.ensures c.in-Some.is)
    (empty_by _ _ (sym c.is_empty.ensures ∙ c.if-not-is_empty.false))
