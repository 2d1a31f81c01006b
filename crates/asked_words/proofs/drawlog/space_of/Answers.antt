use Rattle.std.proofs.Common.{◌∙◌, arith}
use Rattle.asked_words.proofs.Drawing.{two_parts, three_parts}
use Rattle.asked_words.proofs.drawlog.space_of.Goals as goal

pub returns-in-len2 : goal.returns-in-len2
returns-in-len2 c = c.space_with.ensures ∙ two_parts c.args.parts.now _ _ (omega arith)

pub returns-in_ok-planes-in-len3 : goal.returns-in_ok-planes-in-len3
returns-in_ok-planes-in-len3 c =
    c.space_with-in-len3.ensures ∙ three_parts c.args.parts.now _ _ _ c.in_ok-planes-in-len3.planes (omega arith) c.in_ok-planes-in-len3.ensures.value
