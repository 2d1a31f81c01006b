use Rattle.std.proofs.Common.{map, refl, subst, sym}
use Rattle.std.specs.Prelude.{is_some}
use Rattle.std.specs.String.{string_bytes}
use Rattle.room_edge.specs.Calls.{Appends}
use Rattle.room_edge.specs.Real.{real_outside}
use Rattle.room_edge.proofs.folder.FolderRoomRoom.append.Goals as goal

pub returns : goal.returns
returns g c =
    let was = c.args.self.now in
    let old = map (λ m. string_bytes m.name) was.made.items in
    subst (λ created. Appends c.after_write.result c.args.name.now c.args.bytes.now (real_outside was.tally old (is_some was.input)) (real_outside c.after_write.new.tally created (is_some was.input)))
    (sym c.write_to-answer.ensures.names)
    (c.after_write.ensures.appends c.args.name.now c.args.bytes.now refl old (is_some was.input))
