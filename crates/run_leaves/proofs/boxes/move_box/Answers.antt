use Rattle.std.proofs.Common.{refl}
use Rattle.run_leaves.proofs.Stepped.{box-moves, box-overflows, box-refused}
use Rattle.run_leaves.proofs.boxes.move_box.Goals as goal

pub returns-in-Ok : goal.returns-in-Ok
returns-in-Ok g c =
    box-moves c.in-Ok.field-0 c.args.t c.args.bag.now c.args.at.0 c.args.stock.now c.advance.new.self (record { value = _; next = c.next.result }) c.in-Ok.ensures.moves refl c.next.ensures

pub returns-in-Err-Overflow : goal.returns-in-Err-Overflow
returns-in-Err-Overflow g c =
    box-overflows (Unit {0}) c.in-Err-Overflow.field-0 c.args.t c.args.bag.now c.args.at.0 c.args.stock.now c.advance.new.self c.in-Err-Overflow.field-0-is c.in-Err-Overflow.ensures.moves c.in-Err-Overflow.ensures.err

pub returns-in-Err-Memory : goal.returns-in-Err-Memory
returns-in-Err-Memory g c =
    box-refused (Unit {0}) c.in-Err-Memory.field-0 c.args.t c.args.bag.now c.args.at.0 c.args.stock.now c.advance.new.self c.in-Err-Memory.ensures.moves c.in-Err-Memory.ensures.err
