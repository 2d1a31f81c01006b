use Rattle.std.proofs.Common.{ap, Some, rules}
use Rattle.room_edge.specs.Only.{adds}
use Rattle.room_edge.specs.Folder.{folder_of, names_of}
use Rattle.room_edge.proofs.Listed.{lists-grown}
use Rattle.room_edge.proofs.sure.SureRoomRoom.append.Goals as goal

pub returns-clause-room : goal.returns-clause-room
unfolding adds
returns-clause-room c = record { takes = search rules; made = ap Some c.in-Ok.ensures.ok; err = search rules; created = search rules; failed = search rules; faults = search rules; only = search rules }

pub invariant_of-self : goal.invariant_of-self
invariant_of-self c =
    let room = c.args.self.now in
    record {
      some = search rules;
      within = search rules;
      listed = lists-grown c.grow.result (folder_of room.made) (folder_of c.grow.new.files) (names_of room.created) c.args.name.now _ c.grow.ensures.ok c.grow.ensures.err room.listed;
    }
