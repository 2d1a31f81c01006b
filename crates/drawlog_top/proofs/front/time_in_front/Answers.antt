use Rattle.drawlog_top.proofs.FrontPieces.{time_before}
use Rattle.drawlog_top.proofs.front.time_in_front.Goals as goal

pub returns : goal.returns
returns c = (
  c.in_ok-time.ensures.0,
  time_before c.args.text.now c.in_ok-rest.rest.now c.in_ok-time.time c.in_ok-time.ensures.1 c.in_ok-rest.ensures,
)
