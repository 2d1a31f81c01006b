use Rattle.std.proofs.Common.{map, true, refl, subst, sym}
use Rattle.std.specs.String.{string_bytes}
use Rattle.room_edge.specs.Calls.{Reads}
use Rattle.room_edge.specs.Real.{real_outside}
use Rattle.room_edge.proofs.folder.FolderRoomRoom.read_input.Goals as goal

pub returns : goal.returns
returns g c =
    let was = c.args.self.now in
    let created = map (λ m. string_bytes m.name) was.made.items in
    subst (λ opened. Reads c.after_read.result c.read-answer.new.buf (real_outside was.tally created opened) (real_outside c.after_read.new.tally created true))
    (sym c.requires.opened)
    (c.after_read.ensures.room c.read-answer.new.buf refl created true)
