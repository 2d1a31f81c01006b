use Rattle.std.proofs.Common.{arith}
use Rattle.event_list.proofs.LowerCase.{folded_name_is}
use Rattle.event_list.proofs.line.is_folded_name.Goals as goal

pub returns-then-text-le64 : goal.returns-then-text-le64
returns-then-text-le64 c = folded_name_is c.args.text.now c.each_is_of_name.result (omega arith) (omega arith) c.each_is_of_name.ensures
