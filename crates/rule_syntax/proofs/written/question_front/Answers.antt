use Rattle.std.proofs.Common.{refl, sym, ◌∙◌}
use Rattle.rule_syntax.proofs.ReadParts.{question_found}
use Rattle.rule_syntax.proofs.written.question_front.Goals as goal

pub returns : goal.returns
returns c =
    λ names. question_found names c.args.tokens.now c.in_ok-first.rest.now c.in_ok-first.first.now _ c.in_ok-first.ensures.cases.0
    (sym c.is_question.ensures ∙ c.if-not-is_question.false) (c.value.ensures names) refl
