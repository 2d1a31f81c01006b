use Rattle.drawlog_top.proofs.FrontPieces.{part_before}
use Rattle.drawlog_top.proofs.front.named_port.Goals as goal

pub returns : goal.returns
returns c = (
  c.in_ok-name.ensures.0,
  part_before c.args.text.now c.in_ok-name.name.now c.in_ok-name.behind_name.now c.in_ok-rest.rest.now c.in_ok-name.ensures.1 c.in_ok-rest.ensures,
)
