use Rattle.std.proofs.Common.{refl}
use Rattle.answer_model.proofs.Said.{said_whole, said_cut, said_part}
use Rattle.asked_words.proofs.complaints.complain.Goals as goal

pub returns-in-Ok : goal.returns-in-Ok
returns-in-Ok g c = let e = c.in-Ok.ensures in said_whole _ _ _ _ e.complained e.only e.counts_faults e.counts_complain_faults

pub returns-in-Err-WriteFault : goal.returns-in-Err-WriteFault
returns-in-Err-WriteFault g c =
    let e = rw c.in-Err-WriteFault.field-0-is at c.in-Err-WriteFault.ensures in
    let f = e.fault _ refl in
    said_cut _ _ _ _ _ e.complained f.0 e.only f.1 f.2

pub returns-in-Err-Memory : goal.returns-in-Err-Memory
returns-in-Err-Memory g c =
    let e = rw c.in-Err-Memory.field-0-is at c.in-Err-Memory.ensures in
    said_part _ _ _ _ _ e.complained e.short e.only e.counts_faults e.counts_complain_faults
