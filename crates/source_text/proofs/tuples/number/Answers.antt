use Rattle.std.proofs.Common.{◌<◌, ◌^◌, ℤ, Some, ap, sym, ◌∙◌, subst}
use Rattle.std.specs.Prelude.{unsigned_abs}
use Rattle.quantity.specs.Digits.{signed_number}
use Rattle.source_text.proofs.Casts.{short_stays}
use Rattle.source_text.proofs.tuples.number.Goals as goal

pub returns-clause-value : goal.returns-clause-value
returns-clause-value c =
    ap Some (short_stays c.in_ok-number.number c.in_ok-number.ensures.below) ∙ sym c.in_ok-number.was ∙ c.signed_number.ensures.value
    ∙ ap (signed_number 7) c.trimmed.ensures

pub returns-clause-short : goal.returns-clause-short
returns-clause-short c =
    subst (λ (n : ℤ). unsigned_abs n < 10 ^ 7) (sym (short_stays c.in_ok-number.number c.in_ok-number.ensures.below)) c.in_ok-number.ensures.below
