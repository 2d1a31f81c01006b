-- Each outcome is the one of the first test that stops, and a rule's is the one that it is judged to be.
use Rattle.std.proofs.Common.{◌≡◌, true, Some, None}
use Rattle.rule_syntax.proofs.RuleRead.{mapped_none, mapped_some, read_there, no_tokens, words_stop, size_stops, no_rule, judged_read}
use Rattle.rule_words.specs.RuleOf.{words_refused}
use Rattle.rule_words.specs.RuleLaws.{Readable}
use Rattle.rule_words.specs.Shown.{names_of, tokens_of}
use Rattle.rule_words.specs.Tokens.{tokens, words_in, is_large}
use Rattle.rule_syntax.proofs.rule.Rule.read.Goals as goal

pub returns-in_default-clause-refusal : goal.returns-in_default-clause-refusal
returns-in_default-clause-refusal c =
    λ _. no_tokens (names_of c.args.names.now) c.args.text.now (mapped_none (λ list. tokens_of list.items) c.in_ok-tokens.field-0 (tokens c.args.text.now) c.in_default.is c.in_ok-tokens.ensures)

pub returns-in-Some-words_refused-clause-refusal : goal.returns-in-Some-words_refused-clause-refusal
returns-in-Some-words_refused-clause-refusal c =
    λ _. words_stop (names_of c.args.names.now) c.args.text.now (tokens_of c.in-Some.tokens.items) c.in-Some-words_refused.why
    (mapped_some (λ list. tokens_of list.items) c.in_ok-tokens.field-0 c.in-Some.tokens (tokens c.args.text.now) c.in-Some.is c.in_ok-tokens.ensures) cc

pub returns-then-is_large-clause-refusal : goal.returns-then-is_large-clause-refusal
returns-then-is_large-clause-refusal c =
    let w : words_refused (words_in (tokens_of c.in-Some.tokens.items)) ≡ None = cc in
    let s : is_large (tokens_of c.in-Some.tokens.items) ≡ true = cc in
    λ _. size_stops (names_of c.args.names.now) c.args.text.now (tokens_of c.in-Some.tokens.items)
    (mapped_some (λ list. tokens_of list.items) c.in_ok-tokens.field-0 c.in-Some.tokens (tokens c.args.text.now) c.in-Some.is c.in_ok-tokens.ensures) w s

pub returns-in-Some-2 : goal.returns-in-Some-2
returns-in-Some-2 c =
    let t : tokens c.args.text.now ≡ Some (tokens_of c.in-Some.tokens.items) = mapped_some (λ list. tokens_of list.items) c.in_ok-tokens.field-0 c.in-Some.tokens (tokens c.args.text.now) c.in-Some.is c.in_ok-tokens.ensures in
    let h : Readable c.args.text.now (tokens_of c.in-Some.tokens.items) = record { tokens = t; words = cc; size = cc } in
    let judged =
    judged_read (names_of c.args.names.now) c.args.text.now (tokens_of c.in-Some.tokens.items) c.in-Some-2.rule c.judged.result h
    (read_there (names_of c.args.names.now) c.deref-3.result.now c.in-Some.tokens.items c.in_ok-rule.field-0 (Some c.in-Some-2.rule) (cc) (cc) c.in_ok-rule.ensures) c.judged.ensures.rule c.judged.ensures.refusal in
    record { rule = judged.rule; refusal = judged.refusal; sound = judged.sound }

pub returns-clause-refusal : goal.returns-clause-refusal
returns-clause-refusal c =
    let t : tokens c.args.text.now ≡ Some (tokens_of c.in-Some.tokens.items) = mapped_some (λ list. tokens_of list.items) c.in_ok-tokens.field-0 c.in-Some.tokens (tokens c.args.text.now) c.in-Some.is c.in_ok-tokens.ensures in
    let h : Readable c.args.text.now (tokens_of c.in-Some.tokens.items) = record { tokens = t; words = cc; size = cc } in
    λ _. no_rule (names_of c.args.names.now) c.args.text.now (tokens_of c.in-Some.tokens.items) h
    (read_there (names_of c.args.names.now) c.deref-3.result.now c.in-Some.tokens.items c.in_ok-rule.field-0 None (cc) (cc) c.in_ok-rule.ensures)
