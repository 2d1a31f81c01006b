use Rattle.std.proofs.Common.{◌∙◌}
use Rattle.drawlog_top.proofs.UsualForms.{value_as_read}
use Rattle.drawlog_top.proofs.usual.read_value.Goals as goal

pub returns-in-Some : goal.returns-in-Some
returns-in-Some c = c.whole_value.ensures ∙ value_as_read c.args.text.now c.in-Some.digit c.in-Some.ensures.0 c.in-Some.ensures.1
