use Rattle.std.proofs.Common.{ap, Some, [], rules}
use Rattle.room_edge.specs.Outside.{puts}
use Rattle.room_edge.specs.Folder.{folder_of, names_of}
use Rattle.std.specs.String.{string_bytes}
use Rattle.room_edge.proofs.Names.{taken_back}
use Rattle.room_edge.proofs.Listed.{lists-file, lists-same}
use Rattle.room_edge.proofs.sure.SureRoomRoom.create.Goals as goal

pub returns-clause-room : goal.returns-clause-room
unfolding puts
returns-clause-room c = record {
  created = c.in-Ok.ensures.ok;
  made = ap Some c.in-Ok-put.ensures.ok;
  err = tt;
  failed = search rules;
  faults = search rules;
  only = search rules;
}

pub invariant_of-self-in-Ok-put : goal.invariant_of-self-in-Ok-put
invariant_of-self-in-Ok-put c =
    let room = c.args.self.now in
    record {
      some = search rules;
      within = search rules;
      listed = lists-file (folder_of room.made) (folder_of c.put.new.files) (names_of room.created) (names_of c.add_name.new.names) c.args.name.now [] c.in-Ok-put.ensures.ok c.in-Ok.ensures.ok room.listed;
    }

pub invariant_of-self-in_default-put : goal.invariant_of-self-in_default-put
invariant_of-self-in_default-put c =
    let room = c.args.self.now in
    let same = taken_back string_bytes c.add_name.new.names.items c.pop.new.self.items (names_of room.created) c.args.name.now _ (search rules) c.pop.ensures.rest c.in-Ok.ensures.ok in
    record {
      some = search rules;
      within = search rules;
      listed = lists-same (folder_of room.made) (folder_of c.put.new.files) (names_of room.created) (names_of c.pop.new.self) c.in_default-put.ensures.err same room.listed;
    }

pub returns-in_default-put-clause-room : goal.returns-in_default-put-clause-room
unfolding puts
returns-in_default-put-clause-room c =
    let room = c.args.self.now in
    let same = taken_back string_bytes c.add_name.new.names.items c.pop.new.self.items (names_of room.created) c.args.name.now _ (search rules) c.pop.ensures.rest c.in-Ok.ensures.ok in
    record {
      created = tt;
      made = tt;
      err = (same, ap Some c.in_default-put.ensures.err);
      failed = search rules;
      faults = search rules;
      only = search rules;
    }
