use Rattle.std.proofs.Common.{◌∙◌, ap, sym, refl}
use Rattle.std.proofs.Math.Seq.{take-length}
use Rattle.room_edge.specs.Only.{adds}
use Rattle.asked_words.specs.Shown.{text_of_name}
use Rattle.run_loop.specs.AskedFiles.{names_of}
use Rattle.run_loop.proofs.Adding.{added, all_added, fell, fell_of_memory}
use Rattle.run_loop.proofs.write.write_to.Goals as goal

pub returns-in-Ok : goal.returns-in-Ok
returns-in-Ok g c =
    let old = g.R.Room.outside c.args.room.now in
    let new = g.R.Room.outside c.write_all.new.room in
    let e = c.in-Ok.ensures in
    all_added (names_of c.args.asked.now) c.args.file c.args.piece.now old new
    (added (names_of c.args.asked.now) c.args.file c.in-Some.name.now c.args.piece.now old new c.requires.apart (sym c.name_of.ensures ∙ ap text_of_name c.in-Some.is)
    (e.made ∙ ap (adds old.made c.in-Some.name.now) (take-length c.args.piece.now)) e.created e.only e.faults)
    e.counts_faults

pub returns-in-Err-WriteFault : goal.returns-in-Err-WriteFault
returns-in-Err-WriteFault g c =
    let old = g.R.Room.outside c.args.room.now in
    let new = g.R.Room.outside c.write_all.new.room in
    let e = rw c.in-Err-WriteFault.field-0-is at c.in-Err-WriteFault.ensures in
    let f = e.fault _ refl in
    fell (names_of c.args.asked.now) c.args.file c.in-Some.name.now c.args.piece.now _ old new c.requires.apart (sym c.name_of.ensures ∙ ap text_of_name c.in-Some.is)
    e.made f.0 e.created e.only e.faults f.1

pub returns-in-Err-Memory : goal.returns-in-Err-Memory
returns-in-Err-Memory g c =
    let old = g.R.Room.outside c.args.room.now in
    let new = g.R.Room.outside c.write_all.new.room in
    let e = rw c.in-Err-Memory.field-0-is at c.in-Err-Memory.ensures in
    fell_of_memory (names_of c.args.asked.now) c.args.file c.in-Some.name.now c.args.piece.now _ old new c.requires.apart (sym c.name_of.ensures ∙ ap text_of_name c.in-Some.is)
    e.made e.short e.created e.only e.counts_faults
