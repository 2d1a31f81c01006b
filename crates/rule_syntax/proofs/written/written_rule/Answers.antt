use Rattle.std.proofs.Common.{None, Some}
use Rattle.std.proofs.lemmas.Result.{IfOk-weaker}
use Rattle.rule_words.specs.Reading.{sets_before, value_before}
use Rattle.rule_words.specs.Shown.{names_of, tokens_of}
use Rattle.rule_syntax.specs.declared.named.Kind.TheVariants.{Port, Variable}
use Rattle.rule_syntax.proofs.ReadParts.{behind_read, no_sets_read, no_value_read, values_are}
use Rattle.rule_syntax.proofs.written.written_rule.Goals as goal

pub returns-in_default : goal.returns-in_default
returns-in_default c =
    let names = names_of c.args.names.now in
    let ts = tokens_of c.args.tokens.now in
    no_value_read names ts (values_are names Port (value_before ts) c.in_ok-given.field-0 None c.in_ok-given.ensures c.in_default.is)

pub returns-in_default-2 : goal.returns-in_default-2
returns-in_default-2 c =
    let names = names_of c.args.names.now in
    let ts = tokens_of c.args.tokens.now in
    let given = c.in-Some.given in
    no_sets_read names ts given (values_are names Port (value_before ts) c.in_ok-given.field-0 (Some given) c.in_ok-given.ensures c.in-Some.is)
    (values_are names Variable (sets_before (tokens_of given.rest.now)) c.in_ok-set.field-0 None c.in_ok-set.ensures c.in_default-2.is)

pub returns : goal.returns
returns c =
    let names = names_of c.args.names.now in
    let ts = tokens_of c.args.tokens.now in
    let given = c.in-Some.given in
    let set = c.in-Some-2.set in
    IfOk-weaker c.rule_behind.result _ _
    (λ rule behind. behind_read names ts given set rule (values_are names Port (value_before ts) c.in_ok-given.field-0 (Some given) c.in_ok-given.ensures c.in-Some.is)
    (values_are names Variable (sets_before (tokens_of given.rest.now)) c.in_ok-set.field-0 (Some set) c.in_ok-set.ensures c.in-Some-2.is) behind)
    c.rule_behind.ensures
