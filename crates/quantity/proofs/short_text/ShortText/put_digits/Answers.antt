use Rattle.std.proofs.Common.{◌≡◌, ◌+◌, ◌-◌, ◌*◌, ◌/◌, ◌++◌, suc, ap, ◌∙◌, arith, length}
use Rattle.quantity.specs.Digits.{last_digits}
use Rattle.quantity.proofs.Pairs.{one_pair}
use Rattle.quantity.proofs.short_text.ShortText.put_digits.Goals as goal

pub loop-pair-preserved : goal.loop-pair-preserved
loop-pair-preserved c =
    let number = c.loop-pair.left in
    let left = c.args.count - (c.loop-pair._pair + 1) * 2 in
    let two_more : suc (suc left) ≡ c.args.count - c.loop-pair._pair * 2 = omega arith in (
      omega (arith, ap length c.put_two_digits.ensures),
      ap (λ t. last_digits left (number / 100) ++ t) c.put_two_digits.ensures
          ∙ one_pair left number c.loop-pair.self
          ∙ ap (λ i. last_digits i number ++ c.loop-pair.self) two_more
          ∙ c.loop-pair.invariant.1,
    )
