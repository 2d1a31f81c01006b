use Rattle.std.proofs.Common.{◌≡◌, ◌-◌, ◌++◌, ap, ◌∙◌, arith, length, replicate}
use Rattle.quantity.proofs.short_text.ShortText.fill_to.Goals as goal

pub returns : goal.returns
returns c =
    let blanks : c.loop-place._place - length c.args.self.now ≡ c.args.width - length c.args.self.now = omega arith in
    c.loop-place.invariant.0 ∙ ap (λ n. replicate n 32 ++ c.args.self.now) blanks
