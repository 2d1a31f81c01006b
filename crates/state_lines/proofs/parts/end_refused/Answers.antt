use Rattle.std.proofs.Common.{◌<◌, arith, length}
use Rattle.std.proofs.lemmas.Bool.Decides.{nat_tests}
use Rattle.state_lines.specs.Parts.{parts_of}
use Rattle.state_lines.proofs.Heads.{end_followed}
use Rattle.state_lines.proofs.parts.end_refused.Goals as goal

pub returns-else-is_empty : goal.returns-else-is_empty
returns-else-is_empty c =
    let empty = c.is_empty.ensures in
    let not_empty = c.if-is_empty.false in
    let some : 0 < length c.in-Some.behind.now = grind (arith, nat_tests) in
    end_followed c.args.line (parts_of c.args.text.now) c.in-Some.behind.now
    c.in-Some.ensures.value some
