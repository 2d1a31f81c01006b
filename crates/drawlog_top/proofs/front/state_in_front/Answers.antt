use Rattle.drawlog_top.proofs.FrontPieces.{value_before}
use Rattle.drawlog_top.proofs.front.state_in_front.Goals as goal

pub returns : goal.returns
returns c =
    value_before c.args.text.now c.in-Some.rest.now c.in_ok-value.value c.in_ok-number.number c.in-Some.byte
    c.in_ok-number.ensures.0 c.in_ok-number.ensures.1 c.in_ok-value.ensures c.in-Some.ensures
