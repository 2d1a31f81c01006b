use Rattle.std.proofs.Common.{map, subst}
use Rattle.std.specs.Prelude.{is_some}
use Rattle.std.specs.String.{string_bytes}
use Rattle.room_edge.specs.Calls.{Creates}
use Rattle.room_edge.specs.Real.{real_outside}
use Rattle.room_edge.proofs.folder.FolderRoomRoom.create.Goals as goal

pub returns : goal.returns
returns g c =
    let was = c.args.self.now in
    let opened = is_some was.input in
    let named = subst (λ made. Creates c.after_create.result (string_bytes c.in_ok-copy.copy) (real_outside was.tally (map (λ m. string_bytes m.name) made) opened) (real_outside c.after_create.new.tally (map (λ m. string_bytes m.name) c.after_create.new.made.items) opened)) c.place.ensures.made (c.after_create.ensures.room opened) in
    subst (λ name. Creates c.after_create.result name (real_outside was.tally (map (λ m. string_bytes m.name) was.made.items) opened) (real_outside c.after_create.new.tally (map (λ m. string_bytes m.name) c.after_create.new.made.items) opened)) c.in_ok-copy.ensures.name named
