use Rattle.drawlog_top.proofs.TwelveBytes.{time_as_read}
use Rattle.drawlog_top.proofs.usual_time.read_time.Goals as goal

pub returns-in-Some : goal.returns-in-Some
returns-in-Some c = time_as_read c.args.text.now c.in-Some.time c.in-Some.ensures.0 c.in-Some.ensures.1
