use Rattle.std.proofs.Common.{◌≡◌, ◌∙◌, None, Some, ap, arith, sym}
use Rattle.std.proofs.lemmas.Int.{ints}
use Rattle.quantity.specs.declared.value.Value.TheVariants.{Num}
use Rattle.quantity.proofs.LiteralLemmas.{value_in-number}
use Rattle.quantity.proofs.value.Value.parse.Goals as goal

pub returns-in_err-raw : goal.returns-in_err-raw
returns-in_err-raw c =
    c.from_residual.ensures
    ∙ value_in-number c.args.text.now None _ c.is_question_mark.ensures c.if-is_question_mark.false
    (sym c.in_err-raw.was ∙ c.signed_raw.ensures.value)

pub returns : goal.returns
returns c =
    let same : c.within.result ≡ c.in_ok-raw.raw = omega (arith, ints) in
    ap (λ z. Some (Num z)) same
    ∙ value_in-number c.args.text.now (Some c.in_ok-raw.raw) _ c.is_question_mark.ensures
    c.if-is_question_mark.false (sym c.in_ok-raw.was ∙ c.signed_raw.ensures.value)
