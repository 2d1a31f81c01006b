use Rattle.std.proofs.Common.{None, Some}
use Rattle.rule_words.specs.Reading.{delay_before, last_block}
use Rattle.rule_words.specs.Shown.{names_of, tokens_of}
use Rattle.rule_syntax.proofs.ReadParts.{front_is, no_condition_behind, no_delay_behind, parts_behind, term_is}
use Rattle.rule_syntax.proofs.written.rule_behind.Goals as goal

pub returns-in_default : goal.returns-in_default
returns-in_default c =
    let names = names_of c.args.names.now in
    let ts = tokens_of c.args.tokens.now in
    no_delay_behind names c.args.given c.args.set ts (front_is names (delay_before ts) c.in_ok-delay.field-0 None c.in_ok-delay.ensures c.in_default.is)

pub returns-in_default-2 : goal.returns-in_default-2
returns-in_default-2 c =
    let names = names_of c.args.names.now in
    let ts = tokens_of c.args.tokens.now in
    let delay = c.in-Some.delay in
    no_condition_behind names c.args.given c.args.set ts delay (front_is names (delay_before ts) c.in_ok-delay.field-0 (Some delay) c.in_ok-delay.ensures c.in-Some.is)
    (term_is names (last_block (tokens_of delay.rest.now)) c.in_ok-condition.field-0 None c.in_ok-condition.ensures c.in_default-2.is)

pub returns : goal.returns
returns c =
    let names = names_of c.args.names.now in
    let ts = tokens_of c.args.tokens.now in
    let delay = c.in-Some.delay in
    let condition = c.in-Some-2.condition in
    parts_behind names c.args.given c.args.set ts delay condition c.in_ok-rule.rule
    (front_is names (delay_before ts) c.in_ok-delay.field-0 (Some delay) c.in_ok-delay.ensures c.in-Some.is)
    (term_is names (last_block (tokens_of delay.rest.now)) c.in_ok-condition.field-0 (Some condition) c.in_ok-condition.ensures c.in-Some-2.is)
    c.in_ok-rule.ensures
