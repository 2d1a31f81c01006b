use Rattle.std.proofs.Common.{refl}
use Rattle.answer_model.specs.declared.status.Status.TheVariants.{Done}
use Rattle.answer_model.proofs.Said.{shown_whole, shown_stopped, shown_part}
use Rattle.asked_words.proofs.shown.show.Goals as goal

pub returns-in-Ok : goal.returns-in-Ok
returns-in-Ok g c =
    let old = g.R.Room.outside c.args.room.now in
    let new = g.R.Room.outside c.show_all.new.room in
    let e = c.in-Ok.ensures in
    shown_whole old new c.args.bytes.now Done e.shown e.only e.counts_faults

pub returns-in-Err-WriteFault : goal.returns-in-Err-WriteFault
returns-in-Err-WriteFault g c =
    let old = g.R.Room.outside c.args.room.now in
    let mid = g.R.Room.outside c.show_all.new.room in
    let new = g.R.Room.outside c.write_fault.new.room in
    let e = rw c.in-Err-WriteFault.field-0-is at c.in-Err-WriteFault.ensures in
    let f = e.fault _ refl in
    shown_stopped old mid new c.args.bytes.now Done _ c.write_fault.result e.shown f.0 e.only e.faults f.1 c.write_fault.ensures

pub returns-in-Err-Memory : goal.returns-in-Err-Memory
returns-in-Err-Memory g c =
    let old = g.R.Room.outside c.args.room.now in
    let new = g.R.Room.outside c.show_all.new.room in
    let e = rw c.in-Err-Memory.field-0-is at c.in-Err-Memory.ensures in
    shown_part old new c.args.bytes.now Done _ e.shown e.only e.counts_faults
