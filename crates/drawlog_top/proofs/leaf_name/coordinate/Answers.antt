use Rattle.std.proofs.Common.{arith}
use Rattle.drawlog_top.proofs.UsualForms.{coordinate_as_read}
use Rattle.drawlog_top.proofs.leaf_name.coordinate.Goals as goal

pub returns-in-Some : goal.returns-in-Some
returns-in-Some c = coordinate_as_read c.args.text.now c.in-Some.number (omega (arith, c.in-Some.ensures.0)) c.in-Some.ensures.1
