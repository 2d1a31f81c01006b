use Rattle.std.proofs.Common.{arith, sym}
use Rattle.drawlog_top.proofs.FrontPieces.{name_before, rest_after}
use Rattle.drawlog_top.proofs.front.name_in_front.Goals as goal

pub returns : goal.returns
returns c =
    let end = c.in_ok-end.end in
    (name_before c.args.text.now end (sym c.in_ok-end.ensures) (omega arith) (omega arith), rest_after c.args.text.now end)
