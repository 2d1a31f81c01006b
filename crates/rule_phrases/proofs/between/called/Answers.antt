use Rattle.std.proofs.Common.{sym, ◌∙◌}
use Rattle.rule_phrases.specs.declared.front.Front.{Front}
use Rattle.rule_words.specs.Shown.{tokens_of}
use Rattle.rule_phrases.proofs.Listed.{open_call, miscounted_call, whole_call}
use Rattle.rule_phrases.proofs.between.called.Goals as goal

pub returns-in_default-clause-read : goal.returns-in_default-clause-read
returns-in_default-clause-read c = λ names p h. open_call names c.args.function p c.args.arguments h c.in_default.ensures.rest

pub returns-then-len-argument_count-clause-read : goal.returns-then-len-argument_count-clause-read
returns-then-len-argument_count-clause-read c = λ names p h.
    miscounted_call names c.args.function p c.args.arguments (tokens_of c.in-Some.rest.now) h c.in-Some.ensures.rest
    (λ e. c.if-len-argument_count.true (c.len.ensures ∙ c.args.arguments.terms.ok.0 ∙ e ∙ sym c.argument_count.ensures))

pub returns-clause-read : goal.returns-clause-read
returns-clause-read c = λ names p h.
    let called : Front = record { term = c.in_ok-term.term; rest = c.in-Some.rest } in
    whole_call names c.args.function p c.args.arguments called h c.in-Some.ensures.rest
    (sym c.args.arguments.terms.ok.0 ∙ sym c.len.ensures ∙ c.if-len-argument_count.false ∙ c.argument_count.ensures)
    (λ xs. c.in_ok-term.ensures names xs)
