use Rattle.rule_phrases.specs.Between.{with_signs}
use Rattle.rule_phrases.proofs.Prefixes.{one_sign_less}
use Rattle.rule_phrases.proofs.between.with_signs.Goals as goal

pub loop-sign-preserved : goal.loop-sign-preserved
loop-sign-preserved c = λ names x h.
    one_sign_less names c.loop-sign.term c.in_ok-term.term c.loop-sign.signs.items c.pop.new.self.items c.in-Some.sign (with_signs c.args.signs.items x)
    (c.loop-sign.invariant names x h) c.in-Some.ensures.items (λ y s. c.in_ok-term.ensures names y s)
